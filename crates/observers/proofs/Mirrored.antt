-- What a watcher knows, as a scheduler would know it: both may read the same words, and find the same.
use Rattle.std.proofs.Common.{◌≡◌, ℕ, zero, suc, ◌*◌, ◌≤◌, inl, inr, Bool, true, cond, List, replicate, Some, None, refl, sym, ap, subst, ◌∙◌, arith, lit<}
use Rattle.std.specs.Prelude.{◌==◌, not, slice_get}
use Rattle.std.proofs.lemmas.Bool.{and_parts, eqb-true, true≢false}
use Rattle.prgr_core.proofs.Parts.{some_same}
use Rattle.term_core.specs.declared.atom.Mfa.{Mfa}
use Rattle.area_core.specs.declared.map.TheConstants.{ANCHORS}
use Rattle.area_core.specs.Generations.{anchor_names_area}
use Rattle.area_core.specs.Readers.{held_by_watcher}
use Rattle.area_core.specs.Step.{opening_published}
use Rattle.area_core.proofs.Counted.{opened}
use Rattle.marks.specs.Names.{tells_kill}
use Rattle.shared_words.specs.declared.opening.Opening.{Opening}
use Rattle.shared_words.specs.declared.view.View.{View}
use Rattle.shared_words.specs.declared.view.View.TheVariants.{Member, Watcher}
use Rattle.shared_words.specs.declared.view.WatcherView.{WatcherView}
use Rattle.shared_words.specs.Processes.{NamesArea}
use Rattle.shared_words.specs.Publishing.{MayLoadWord, ReadsHeld, WordTells}
use Rattle.shared_words.specs.Seats.{generation_held, member_of}
use Rattle.shared_words.proofs.ShownMembers.{there_is}
use Rattle.anchors.specs.Holds.{anchors_of}
use Rattle.word_view.specs.Loaded.{IsFound}
use Rattle.word_view.specs.Views as turns
use Rattle.word_view.specs.Views.{MayBegin}
use Rattle.observers.specs.Watching.{HoldsServed, IsReading, as_member, held_by_watching}

-- ---- the process that names nothing

zeros : (count place word : ℕ) → slice_get (replicate count 0) place ≡ Some word → word ≡ 0
zeros zero place word at = absurd (cc)
zeros (suc n) zero word at = sym (some_same 0 word at)
zeros (suc n) (suc place) word at = zeros n place word at

-- its anchors are 0
nothing_stored : (v : WatcherView) (process place word : ℕ) → slice_get (anchors_of (as_member v) process) place ≡ Some word → word ≡ 0
nothing_stored v process place word at = zeros ANCHORS place word (ap (λ (xs : List ℕ). slice_get xs place) (opened ANCHORS) ∙ at)

no_name : (serial : ℕ) → anchor_names_area 0 serial ≡ true → ⊥
no_name serial e = true≢false (sym e)

no_kill : (serial : ℕ) → tells_kill 0 serial ≡ true → ⊥
no_kill zero e = (cc)
no_kill (suc n) e = let same : 0 ≡ suc n * 4 = eqb-true 0 (suc n * 4) (and_parts (0 == suc n * 4) (not (suc n == 0)) e).0 in absurd (omega (arith, same))

names_nothing : (v : WatcherView) (serial : ℕ) → NamesArea (as_member v) serial → ⊥
names_nothing v serial (process, anchor) =
    no_name serial (subst (λ (n : ℕ). anchor_names_area n serial ≡ true) (nothing_stored v process anchor.place anchor.word anchor.at) anchor.passes)

-- a table of one scheduler
abbrev pub of_one : Opening
of_one = record { members = 1; watchers = 0 }

-- it might have a turn under the generation
pub may_begin : (functions : List Mfa) (v : WatcherView) → HoldsServed functions v → MayBegin functions of_one 0 (as_member v)
may_begin functions v h = record {
  run = record { awake = refl; below = lit< tt; own = refl; noted = not_before (generation_held v) };
  unkilled = λ place word serial at told. no_kill serial (subst (λ (n : ℕ). tells_kill n serial ≡ true) (nothing_stored v 0 place word at) told);
  apart = λ a b x y at_a at_b differs also same. absurd (differs (nothing_stored v 0 a x at_a));
  served = h.served;
  areas = h.areas;
  named = λ serial anchor. absurd (names_nothing v serial (0, anchor));
}
  where
    not_before : (n : ℕ) → 0 ≤ n
    not_before n = omega (arith)

-- ---- loads

module _ (root : ℕ) (v : WatcherView) (h : IsReading root v) where
  -- the watcher may read the generation that it holds
  pub held_watched : held_by_watcher v.watcher ≡ Some (generation_held v)
  held_watched = ap (λ (b : Bool). cond b v.watcher.generation None) h.delaying.claimed ∙ h.rooted.holds

  -- and so might the scheduler
  pub reading_member : turns.IsReading root (as_member v)
  reading_member = record { awake = refl; rooted = record { learnt = h.rooted.learnt; fits = h.rooted.fits; held = h.rooted.held } }

  -- what that may load, the watcher may
  pub may_watched : (word : ℕ) → MayLoadWord word (Member (as_member v)) → MayLoadWord word (Watcher v)
  may_watched word (inl reads) = subst (ReadsHeld word v.seen) (sym held_watched) reads
  may_watched word (inr named) = absurd (names_nothing v named.area.serial named.named)

  -- and what the watcher finds, it finds
  pub found_watched : (word found : ℕ) → WordTells (Watcher v) word found → IsFound (as_member v) word found
  found_watched word found tells =
      let u = tells (generation_held v) (held_by_watching v) held_watched (there_is v.seen (generation_held v) opening_published h.rooted.learnt) in
      record {
        blocks = u.blocks;
        stands = u.stands;
        published = u.published;
        here = u.here;
        named = λ m same area named listed. absurd (names_nothing v area.serial (subst (λ (x : View). NamesArea (member_of x) area.serial) (sym same) named));
        all = u.all;
      }
