-- What a search looks for, and from where on.
pub mod FrontOrder
pub mod BoundLemmas
pub mod ShorterLemmas
pub mod StandLemmas
pub mod LeastLemmas
pub mod IdsLemmas
