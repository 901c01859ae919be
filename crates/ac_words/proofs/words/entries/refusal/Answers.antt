use Rattle.std.proofs.Common.{◌∷◌, [], inl, inr}
use Rattle.ac_words.proofs.words.entries.refusal.Goals as goal

pub returns : goal.returns
returns c = c.fault_of.ensures (c.args.kind ∷ []) (inr (inl c.in_ok-error.ensures.kind))
