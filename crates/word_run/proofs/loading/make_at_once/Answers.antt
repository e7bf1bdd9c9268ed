use Rattle.std.proofs.Common.{◌<◌, List, length, sym, ap, subst, ◌∙◌}
use Rattle.std.proofs.lemmas.List.{with_items_is}
use Rattle.std.specs.Vec.{with_items}
use Rattle.run_law.specs.Newcomers.{SpawnedProcess}
use Rattle.inbox.specs.Ends.{Posting}
use Rattle.word_run.specs.Desks.{AddsInSlices, DeskState}
use Rattle.word_run.specs.Loaders.{AreEnds}
use Rattle.word_run.proofs.Making.{desk_adds, desk_makes}
use Rattle.word_run.proofs.Slices.{makes_lent}
use Rattle.word_run.proofs.loading.make_at_once.Goals as goal

pub make_and_post-requires-clause-some : goal.make_and_post-requires-clause-some
make_and_post-requires-clause-some g c = subst (λ (xs : List (Posting SpawnedProcess)). 0 < length xs) (sym c.deref_mut.ensures.value) c.desk.invariant.some

pub make_and_post-requires-clause-homes : goal.make_and_post-requires-clause-homes
make_and_post-requires-clause-homes g c = c.requires.homes ∙ ap (λ (d : DeskState). length d.posted) (sym c.desk.view_is) ∙ ap length (sym c.deref_mut.ensures.value)

pub make_and_post-requires-clause-ends : goal.make_and_post-requires-clause-ends
make_and_post-requires-clause-ends g c = subst AreEnds (sym c.deref_mut.ensures.value) c.desk.invariant.posted.number

-- what it adds
pub returns : goal.returns
returns g c =
    let before : DeskState = record { book = c.desk.inside.permit; posted = c.desk.inside.posters.items } in
    let after : DeskState = record { book = c.make_and_post.new.permit; posted = (with_items c.desk.inside.posters c.make_and_post.new.posters).items } in
    let items = with_items_is c.desk.inside.posters c.make_and_post.new.posters (c.make_and_post.auto.posters ∙ c.deref_mut.ensures.len) in
    subst (λ d. AddsInSlices d after) c.desk.view_is (desk_adds before after (makes_lent before after c.deref_mut.result.now c.make_and_post.new.posters c.deref_mut.ensures.value items c.make_and_post.ensures.made))

-- what was posted was spawned still
pub invariant_of-desk : goal.invariant_of-desk
invariant_of-desk g c =
    let before : DeskState = record { book = c.desk.inside.permit; posted = c.desk.inside.posters.items } in
    let after : DeskState = record { book = c.make_and_post.new.permit; posted = (with_items c.desk.inside.posters c.make_and_post.new.posters).items } in
    let items = with_items_is c.desk.inside.posters c.make_and_post.new.posters (c.make_and_post.auto.posters ∙ c.deref_mut.ensures.len) in
    desk_makes before after (makes_lent before after c.deref_mut.result.now c.make_and_post.new.posters c.deref_mut.ensures.value items c.make_and_post.ensures.made) c.desk.invariant
