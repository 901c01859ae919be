-- Lists that are passed over, since they begin with a front.
use Rattle.std.proofs.Common.{List, [], ◌++◌, ℕ, refl, sym, ap, ◌∙◌, append_assoc}
use Rattle.ac_rules.specs.Lists.{BeginsWith, PassesOver}
use Rattle.ac_rules.proofs.Elements.{each_append, each_weaker}

pub over_none : (front : List ℕ) (all : List (List ℕ)) → PassesOver front all all
over_none front all = ([], refl, tt)

pub over_then : (front : List ℕ) (a b c : List (List ℕ)) → PassesOver front a b → PassesOver front b c → PassesOver front a c
over_then front a b c p q = (p.0 ++ q.0, p.1 ∙ ap (λ (ts : List (List ℕ)). p.0 ++ ts) q.1 ∙ sym (append_assoc p.0 q.0 c), each_append (λ t. BeginsWith t front) p.0 q.0 p.2 q.2)

-- what begins with a list begins with its front
pub over_behind : (front q : List ℕ) (a b : List (List ℕ)) → BeginsWith q front → PassesOver q a b → PassesOver front a b
over_behind front q a b begins p =
    (p.0, p.1, each_weaker (λ t. BeginsWith t q) (λ t. BeginsWith t front) p.0 (λ t more. (begins.0 ++ more.0, more.1 ∙ ap (λ (u : List ℕ). u ++ more.0) begins.1 ∙ append_assoc front begins.0 more.0)) p.2)
