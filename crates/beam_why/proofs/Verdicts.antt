-- What an answer says, from what was read and judged.
use Rattle.std.proofs.Common.{◌≡◌, ◌⊎◌, inl, inr, ℕ, List, Option, Result, Ok, Err, sym, subst}
use Rattle.std.specs.Prelude.{IfOk}
use Rattle.script_core.specs.declared.script.Script.{Script}
use Rattle.script_text.specs.declared.fault.ScriptFault.{ScriptFault}
use Rattle.script_text.specs.declared.fault.ScriptFault.TheVariants as faults
use Rattle.script_text.specs.ScriptText.{FaultOf}
use Rattle.run_log.specs.declared.logs.RunLog.{RunLog}
use Rattle.legality.specs.declared.breach.Clause.{Clause}
use Rattle.legality.specs.Breaches.{ClauseHolds}
use Rattle.outside.specs.declared.answer.Answer.{Answer}
use Rattle.outside.specs.declared.check_input.TheConstants.{LONGEST_CHECK}
use Rattle.outside.specs.Answers.{IsLine, refusal_text}
use Rattle.outside.specs.Inputs.{IsScriptRefused, WasRead}
use Rattle.outside.specs.Parting.{script_part}
use Rattle.beam_why.specs.Why.{Delivered, IsBrokenAnswer, LogVerdict, ReadVerdict, WhyEnds, WhyVerdict, broken, cut, cut_off, script_refused, whole, whole_text, written}

-- a verdict on a line is one on an answer that is this line
pub by_line : (P : ℕ → List ℕ → Type 0) (wanted : ℕ) (line : List ℕ) (status : ℕ) (log : Option RunLog) (text : List ℕ) → P wanted line → IsLine wanted line status log text → P status text
by_line P wanted line status log text p h = subst (λ (n : ℕ). P n text) (sym h.status_is) (subst (λ (t : List ℕ). P wanted t) (sym h.text_is) p)

-- the answer for a broken clause
pub broken_is : (s : Script) (log : RunLog) (clause : Clause) (a : Answer) → (ClauseHolds clause s log → ⊥) → IsBrokenAnswer clause a → LogVerdict s log a.status a.text
broken_is s log clause a refuted h = subst (λ (n : ℕ). LogVerdict s log n a.text) (sym h.status_is) (subst (λ (t : List ℕ). LogVerdict s log 1 t) (sym h.text_is) (broken clause h.rest refuted))

-- two facts of an answer
pub both_ok : {A E : Type 0} (P Q : A → Type 0) (r : Result A E) → IfOk r P → IfOk r Q → IfOk r (λ a. P a × Q a)
both_ok P Q (Ok a) p q = (p, q)
both_ok P Q (Err e) p q = tt

fault_there : (bytes : List ℕ) (f : ScriptFault) → FaultOf (script_part bytes) f ⊎ (f ≡ faults.NoMemory) → (f ≡ faults.NoMemory → ⊥) → FaultOf (script_part bytes) f
fault_there bytes f (inl fault) known = fault
fault_there bytes f (inr want) known = absurd (known want)

-- the answer for a script's part that is refused
pub script_refused_is : (bytes : List ℕ) (f : ScriptFault) (a : Answer) → IsScriptRefused bytes f → IsLine 3 (refusal_text f) a.status a.log a.text → (f ≡ faults.NoMemory → ⊥) → WhyVerdict bytes a.status a.text
script_refused_is bytes f a refused line known =
    by_line (WhyVerdict bytes) 3 (refusal_text f) a.status a.log a.text (script_refused f (fault_there bytes f refused.fault known) (λ s text. known (refused.none s text))) line

-- the answer to a slice of the bytes, where the whole was read
pub by_slice : (left left_after : Option (List ℕ)) (bytes slice : List ℕ) (status : ℕ) (text : List ℕ) → slice ≡ bytes → WasRead LONGEST_CHECK left left_after bytes → WhyVerdict slice status text → ReadVerdict left left_after status text
by_slice left left_after bytes slice status text e read h = whole_text bytes status text read (subst (λ (b : List ℕ). WhyVerdict b status text) e h)

-- how the call ended whose answer was delivered
ends_of : (left left_after : Option (List ℕ)) (sf sf_after : ℕ) (got got_after : Option (List ℕ)) (kf kf_after status : ℕ) (text : List ℕ) (result : ℕ) → ReadVerdict left left_after status text → Delivered got got_after kf kf_after status text result
    → WhyEnds left left_after sf sf_after got got_after kf kf_after result
ends_of left left_after sf sf_after got got_after kf kf_after status text result h (whole appended) = written status text h appended
ends_of left left_after sf sf_after got got_after kf kf_after status text result h (cut rose prefix) = cut_off status text h rose prefix

-- so where a slice of the text was delivered that is the whole of it
pub ends_with : (left left_after : Option (List ℕ)) (sf sf_after : ℕ) (got got_after : Option (List ℕ)) (kf kf_after status : ℕ) (text slice : List ℕ) (result : ℕ) → slice ≡ text → ReadVerdict left left_after status text → Delivered got got_after kf kf_after status slice result
    → WhyEnds left left_after sf sf_after got got_after kf kf_after result
ends_with left left_after sf sf_after got got_after kf kf_after status text slice result e h delivered =
    ends_of left left_after sf sf_after got got_after kf kf_after status text result h (subst (λ (t : List ℕ). Delivered got got_after kf kf_after status t result) e delivered)
