-- The switch of a breakpoint stands as it did, where the writer loads the counter or looks at slots, or splits a note.
use Rattle.std.proofs.Common.{◌≡◌, inl, List, refl, sym, subst, arith}
use Rattle.std.specs.Prelude.{Option, Some, None}
use Rattle.marks.specs.declared.kept.WriterKept.{WriterKept}
use Rattle.shared_words.specs.declared.view.NamedAnchor.{NamedAnchor}
use Rattle.shared_words.specs.declared.view.WriterView.{WriterView}
use Rattle.shared_words.specs.Notes.{with_note}
use Rattle.breakpoints.specs.declared.patch.Patch.{Patch}
use Rattle.breakpoints.specs.Laws.{LeavesDecisions}
use Rattle.breakpoints.proofs.Others.{others_keep}
use Rattle.staging.specs.Whose.{PatchStands}

pub patch_left : (o : Option Patch) (old new : WriterView) → LeavesDecisions old new → PatchStands o old → PatchStands o new
patch_left None old new leaves was = (others_keep old new leaves).0 was
patch_left (Some patch) old new leaves was = (others_keep old new leaves).1 patch was

-- slots were looked at
looked_leaves : (w : WriterView) (looks : WriterKept) (named : List NamedAnchor) → LeavesDecisions w (record w { looks = looks; named = named })
looked_leaves w looks named = record {
  long = refl;
  published = refl;
  decisions = λ block function for few. inl (λ bp fits. refl);
  entries = λ k function among has. refl;
  kept = λ k among. among;
  dropped = λ k among. inl among;
  more = λ pair among. among;
  rising = omega arith;
}

pub patch_looked : (o : Option Patch) (old new : WriterView) → new ≡ record old { looks = new.looks; named = new.named } → PatchStands o old → PatchStands o new
patch_looked o old new is was = subst (PatchStands o) (sym is) (patch_left o old (record old { looks = new.looks; named = new.named }) (looked_leaves old new.looks new.named) was)

-- a note was split
noted_leaves : (w : WriterView) (process : _) → LeavesDecisions w (with_note process w)
noted_leaves w process = record {
  long = refl;
  published = refl;
  decisions = λ block function for few. inl (λ bp fits. refl);
  entries = λ k function among has. refl;
  kept = λ k among. among;
  dropped = λ k among. inl among;
  more = λ pair among. among;
  rising = omega arith;
}

pub patch_noted : (o : Option Patch) (old new : WriterView) (process : _) → new ≡ with_note process old → PatchStands o old → PatchStands o new
patch_noted o old new process is was = subst (PatchStands o) (sym is) (patch_left o old (with_note process old) (noted_leaves old process) was)
