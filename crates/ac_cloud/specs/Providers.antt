-- What a provider of a cloud shows.
use Rattle.ac_cloud.specs.World.{Provider, provider_at}
use Rattle.ac_cloud.specs.Cloud.CloudWorld.{providers_of}
use Rattle.ac_cloud.specs.declared.provider.Provider as rust

-- the provider itself
abbrev pub provider_of : rust.Provider → Provider
provider_of p = provider_at (providers_of p.cloud.now) p.ix
