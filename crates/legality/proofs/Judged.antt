-- What it comes to that a log was judged.
use Rattle.std.proofs.Common.{◌≡◌, ◌↔◌, Bool, true, false, length, not, Option, Some, None, is_some, IfSome, IsTrue, refl, sym, ◌∙◌, subst}
use Rattle.std.proofs.lemmas.Bool.{false≢true}
use Rattle.std.proofs.lemmas.Option.{none-some}
use Rattle.script_core.specs.declared.script.Script.{Script}
use Rattle.run_log.specs.declared.logs.RunLog.{RunLog}
use Rattle.run_log.specs.Legal.{Legal}
use Rattle.legality.specs.Breaches.{ClauseHolds, ClausesHold, IsBroken, IsJudged, is_of_linger}
use Rattle.legality.specs.declared.breach.Breach.{Breach}
use Rattle.legality.specs.declared.breach.Clause.{Clause}
use Rattle.legality.specs.declared.sweep.Sweep.{Sweep}
use Rattle.legality.specs.Shape.{IsShaped}
use Rattle.legality.specs.Sweeps.{HasEnded, IsLeft, IsSwept}
use Rattle.legality.proofs.Clauses.{clause_of_legal, legal_watched, not_legal}
use Rattle.legality.proofs.Ends.{clauses_at_end, left_broken}

module _ (s : Script) (log : RunLog) where
  -- nothing was found exactly where the log is lawful
  pub judged_both : (o : Option Breach) (none : Bool) → not none ≡ is_some o → IsJudged true s log o → IsTrue none ↔ Legal s log
  judged_both None true is holds = (λ h. legal_watched s log holds, λ legal. refl)
  judged_both None false is holds = absurd (false≢true (sym is))
  judged_both (Some breach) true is broken = absurd (false≢true is)
  judged_both (Some breach) false is broken = (λ h. absurd (false≢true h), λ legal. absurd (not_legal s log true breach.clause broken legal))

  -- where nothing was found the log is lawful
  pub none_lawful : ClausesHold true s log → (◌≡◌ {A = Option Breach} None None) ↔ Legal s log
  none_lawful holds = (λ h. legal_watched s log holds, λ legal. refl)

  -- a clause that does not hold holds in no lawful log
  pub some_unlawful : (breach : Breach) → (ClauseHolds breach.clause s log → ⊥) → (◌≡◌ {A = Option Breach} (Some breach) None) ↔ Legal s log
  some_unlawful breach refuted = (λ h. absurd (none-some breach (sym h)), λ legal. absurd (refuted (clause_of_legal s log legal breach.clause)))

  -- a clause that is not about lingering processes does not hold
  pub refuted_other : (clause : Clause) → is_of_linger clause ≡ false → IsBroken true s log clause → ClauseHolds clause s log → ⊥
  refuted_other clause other broken holds = broken (λ e. absurd (false≢true (sym other ∙ e))) holds

  -- nor one that was found where these were not watched
  pub refuted_unwatched : (clause : Clause) → IsBroken false s log clause → ClauseHolds clause s log → ⊥
  refuted_unwatched clause broken holds = broken (λ e h. absurd (false≢true h)) holds

  -- nor what is told of them, where all others hold
  pub refuted_linger : (clause : Clause) → IsBroken true s log clause → ClausesHold false s log → ClauseHolds clause s log → ⊥
  refuted_linger clause broken others holds = broken (λ e h. others) holds

  -- what is known where it is watched as it says
  pub judged_so : (watched known : Bool) (o : Option Breach) → known ≡ watched → IsJudged known s log o → IsJudged watched s log o
  judged_so watched known o is judged = subst (λ w. IsJudged w s log o) is judged

-- a clause does not hold where what follows from it does not
pub broken_by : (s : Script) (log : RunLog) (watched : Bool) (named clause : Clause) → named ≡ clause → (ClauseHolds clause s log → ⊥) → IsBroken watched s log named
broken_by s log watched named clause is refuted others holds = refuted (subst (λ c. ClauseHolds c s log) is holds)

-- a test that has failed is of something that is not so
pub failed : {P : Type 0} (b : Bool) → b ≡ false → IsTrue b ↔ P → P → ⊥
failed b is both holds = false≢true (sym is ∙ both.1 holds)

module _ (s : Script) (log : RunLog) (watched : Bool) (sweep : Sweep) (swept : IsSwept s log watched (length log.journal) sweep) (shaped : IsShaped s log) where
  -- what is left after the last entry tells how the log was judged
  pub left_judged : (o : Option Breach) → (o ≡ None → HasEnded sweep) → IfSome o (λ b. IsLeft sweep b.clause) → IsJudged watched s log o
  left_judged None ended left = clauses_at_end s log watched sweep swept shaped (ended refl)
  left_judged (Some breach) ended left = λ others holds. left_broken s log watched sweep swept shaped breach.clause left holds
