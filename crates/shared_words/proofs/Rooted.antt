-- The root word that a member's token keeps is that of the generation that the member holds: at first, after a load of
-- the root behind one of the counter, and as long as generation and what was learnt of it stay.
use Rattle.std.proofs.Common.{◌≡◌, ℕ, ◌<◌, List, length, Bool, true, false, cond, refl, sym, ap, subst, ◌∙◌, arith}
use Rattle.prgr_core.specs.declared.member.Member as machines
use Rattle.prgr_core.specs.Members as members
use Rattle.prgr_core.specs.Step.{has_loaded}
use Rattle.area_core.specs.declared.table.Published.{Published}
use Rattle.area_core.specs.Blocks.{RootFits}
use Rattle.shared_words.specs.declared.view.MemberView.{MemberView}
use Rattle.shared_words.specs.declared.view.View.{View}
use Rattle.shared_words.specs.declared.view.View.TheVariants.{Member}
use Rattle.shared_words.specs.Views.{newest_number, published_at, root_word, seen_generations}
use Rattle.shared_words.specs.Seats.{member_of, IsRooted}
use Rattle.shared_words.specs.Kinds.{RootLoaded}

-- the generation of a member that has loaded the counter, and then the root
generation_found : (b : Bool) (g : ℕ) (a : machines.Member) → b ≡ true → (cond b (members.root_loaded g a) a).generation ≡ g
generation_found true g a is = refl
generation_found false g a is = absurd (cc)

-- after a load of the root by a member that has loaded the counter
pub rooted_by_load : (Served : Published → Type 0) (m : MemberView) (new : View) (found : ℕ) → has_loaded m.member.loaded ≡ true → RootLoaded Served (Member m) new found → IsRooted found (member_of new)
rooted_by_load Served m new found loaded told =
    let xs : List Published = seen_generations new in
    let held = generation_found (has_loaded m.member.loaded) (newest_number xs) m.member loaded in
    let first = told.some in
    subst (λ (v : View). IsRooted found (member_of v)) (sym told.view) (record {
      learnt = subst (λ (g : ℕ). g < length xs) (sym held) (omega arith);
      fits = subst (λ (g : ℕ). RootFits (published_at xs g).root) (sym held) told.fits;
      held = told.root ∙ ap (λ (g : ℕ). root_word (published_at xs g).root g) (sym held);
    })
