-- A scheduler whose member has just begun, and to which no process has come.
use Rattle.std.proofs.Common.{◌≡◌, ℕ, ◌<◌, List, [], Option, refl, sym, ap, subst, ◌∙◌, arith}
use Rattle.std.specs.Prelude.{unwrap_or}
use Rattle.std.proofs.lemmas.Option.{none-some}
use Rattle.atomic_table.specs.Seated.{TableId}
use Rattle.prgr_core.specs.declared.member.TheConstants.{MOST_MEMBERS}
use Rattle.term_core.specs.declared.atom.Mfa.{Mfa}
use Rattle.area_core.specs.Map.{opening_words}
use Rattle.marks.specs.Names.{IsAtRest}
use Rattle.marks.specs.Steps.{nothing_kept, opening_process}
use Rattle.marks.proofs.Opening.{opens}
use Rattle.shared_words.specs.declared.table.TheConstants.{ANCHORS, OPENING_ROOT}
use Rattle.shared_words.specs.declared.opening.Opening.{Opening}
use Rattle.shared_words.specs.declared.seats.Member as tokens
use Rattle.shared_words.specs.declared.view.MemberView.{MemberView}
use Rattle.shared_words.specs.declared.view.View.TheVariants.{Member}
use Rattle.shared_words.specs.Making.{IsMemberBegun}
use Rattle.shared_words.specs.Opening.{member_begun}
use Rattle.shared_words.specs.Processes.{AreAtRest, AreCopied, note_in, under_of}
use Rattle.shared_words.specs.Seats.{IsRooted, member_of}
use Rattle.shared_words.proofs.OpeningRule.{opening_empty}
use Rattle.shared_words.proofs.SlotFrames.{rests}
use Rattle.anchors.specs.Holds.{view_of}
use Rattle.word_view.specs.Laps.{NamesNothing}
use Rattle.word_lap.specs.declared.process_run.ProcessRun.{ProcessRun}
use Rattle.word_lap.specs.Laws.{AreAllFree}
use Rattle.word_lap.specs.Schedulers.{IsBetweenTurns, IsEmpty, IsHeldAt, IsToken, KeepsProcesses}

-- the anchors of a new slot name nothing
zeros_name_nothing : (count : ℕ) → NamesNothing (opening_words count)
zeros_name_nothing count place word at = sym (ap (λ (o : Option ℕ). unwrap_or o 0) at) ∙ opening_empty count place

-- a member that stored no slot has no turn under way
begun_rests : (k : ℕ) → AreAtRest (member_begun k)
begun_rests k process =
    let asleep = under_of (record (member_begun 0) { member = record (member_begun 0).member { word = 0 } }) in
    let rest = rests asleep process opening_process nothing_kept refl (opens asleep process) in
    let empty : IsAtRest (record opening_process { note = note_in [] process }) = record { frames = rest.frames; literals = rest.literals } in
    empty

begun_between : (k : ℕ) → IsBetweenTurns (member_begun k)
begun_between k = record { awake = refl; follows = refl; rest = begun_rests k }

begun_empty : (k p : ℕ) → IsEmpty (member_begun k) p
begun_empty k p = record { marks = refl; empty = zeros_name_nothing ANCHORS; note = refl }

-- the root word of generation 0 is the one that the token keeps
begun_rooted : (k : ℕ) → IsRooted OPENING_ROOT (member_begun k)
begun_rooted k = record { learnt = omega arith; fits = record { code = omega arith; bp = omega arith; term = omega arith }; held = refl }

module _ (table : TableId) (number : ℕ) (token : tokens.Member) (few : number < MOST_MEMBERS) (begun : IsMemberBegun table number token) where
  view_is : view_of token ≡ member_begun number
  view_is = ap member_of begun.view

  pub begun_token : IsToken table token
  begun_token = record {
    seat = record {
      few = subst (λ (n : ℕ). n < MOST_MEMBERS) (sym begun.number_is) few;
      of_table = begun.of_table;
      view = begun.view ∙ ap Member (sym view_is);
      numbered = ap (λ (m : MemberView). m.member.number) view_is ∙ sym begun.number_is;
    };
    copied = subst (AreCopied token.anchors.items) (sym view_is) begun.copied;
    rooted = subst (λ (z : ℕ × MemberView). IsRooted z.0 z.1) (λ i. (sym begun.root_is i, sym view_is i)) (begun_rooted number);
  }

  pub begun_is_between : IsBetweenTurns (view_of token)
  begun_is_between = subst IsBetweenTurns (sym view_is) (begun_between number)

  pub begun_keeps : (functions : List Mfa) (opening : Opening) (processes : List (Option ProcessRun)) → AreAllFree processes → KeepsProcesses functions opening (view_of token) [] processes
  begun_keeps functions opening processes free = record {
    all = free.all;
    each = λ p place at. subst (λ (x : Option ProcessRun). IsHeldAt functions opening (view_of token) [] p x) (sym (free.free p place at))
        (subst (λ (m : MemberView). IsEmpty m p) (sym view_is) (begun_empty number p), λ spawn among is own. none-some spawn among.1);
  }
