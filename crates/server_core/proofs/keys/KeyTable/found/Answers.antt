-- What is found is of the term that the key holds.
use Rattle.std.proofs.Common.{IfSome, ap, sym, subst, ◌∙◌}
use Rattle.term_core.specs.Image.{IsImmediate}
use Rattle.term_core.proofs.PlainTerms.{term_of-plain}
use Rattle.server_core.specs.Rooms.{HasWord}
use Rattle.server_core.specs.ServerState.{found_of}
use Rattle.server_core.proofs.KeyEntries.{held_shown}
use Rattle.server_core.proofs.keys.KeyTable.found.Goals as goal

pub found_in-requires : goal.found_in-requires
found_in-requires c =
    let shown = held_shown c.self.inside.held.entries c.args.self.now.persistents c.args.key.0 _ (ap (λ r. r.persistents) c.self.view_is) c.in-Some.ensures.value in
    λ none. subst IsImmediate (term_of-plain c.in-Some.held.now.term) (subst (λ o. IfSome o HasWord) (sym shown) c.requires none)

pub returns-in-Some : goal.returns-in-Some
returns-in-Some c =
    c.found_in.ensures ∙ ap found_of (held_shown c.self.inside.held.entries c.args.self.now.persistents c.args.key.0 _ (ap (λ r. r.persistents) c.self.view_is) c.in-Some.ensures.value)

pub returns-in-None : goal.returns-in-None
returns-in-None c =
    ap found_of (held_shown c.self.inside.held.entries c.args.self.now.persistents c.args.key.0 _ (ap (λ r. r.persistents) c.self.view_is) c.in-None.ensures.value)
