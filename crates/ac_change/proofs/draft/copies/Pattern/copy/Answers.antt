use Rattle.std.proofs.Common.{◌≡◌, ◌∙◌, arith, get_or}
use Rattle.ac_change.specs.Changes.{copied, id_copied}
use Rattle.ac_change.specs.Held.{provider_held}
use Rattle.ac_change.proofs.Lists.{made_more}
use Rattle.ac_change.proofs.draft.copies.Pattern.copy.Goals as goal

pub loop-held-preserved : goal.loop-held-preserved
loop-held-preserved c =
    let ids = c.args.self.now.ids.ids.items in
    let list = c.args.self.now.members.items in
    let here : c.held-item.result ≡ get_or list c.loop-held.held-index c.held-item.result = rw c.deref-held-items.ensures.value at c.held-item.is in
    record {
      providers = made_more provider_held (λ h. copied ids c.args.first c.args.turn (provider_held h)) c.loop-held.new.items c.push.new.self.items c.in_ok-copy_one.field-0 list c.loop-held.held-index c.held-item.result
          (omega arith) here c.in_ok-push.ensures.items c.loop-held.invariant.providers c.in_ok-copy_one.ensures.provider;
      roots = made_more (λ h. h.root) (λ h. id_copied ids c.args.first c.args.self.now.root) c.loop-held.new.items c.push.new.self.items c.in_ok-copy_one.field-0 list c.loop-held.held-index c.held-item.result
          (omega arith) here c.in_ok-push.ensures.items c.loop-held.invariant.roots (c.in_ok-copy_one.ensures.root ∙ c.id_copied-root.ensures);
    }
