-- What holds of the script of a seed and a size, which stands folded in the clauses of the top call.
use Rattle.std.proofs.Common.{◌≡◌, ℕ, ◌≤◌, List, Some, refl, sym, subst}
use Rattle.run_log.specs.declared.logs.RunLog.{RunLog}
use Rattle.run_log.specs.Legal.{Legal}
use Rattle.run_log.specs.Summary.{summary_of}
use Rattle.script_core.specs.Sound.{IsScript}
use Rattle.script_maker.specs.MadeScript.{made_script}
use Rattle.script_maker.proofs.MadeScripts.{made_script-IsScript}
use Rattle.script_text.specs.Canonical.{IsOfSomeText, IsTooLongToPrint, canonical_text}
use Rattle.script_text.specs.ScriptText.{ScriptText}
use Rattle.maker_text.proofs.MadeScriptTexts.{made_text-reads}
use Rattle.maker_text.proofs.MadeTexts.{made_text-within}
use Rattle.beam_tool.specs.TopCall.{TrialOf, seeded_script, tried}

pub seeded_is : (seed size : ℕ) → made_script seed size ≡ seeded_script seed size
unfolding seeded_script
seeded_is seed size = refl

-- it is a script like each that some text says
pub seeded_sound : (seed size : ℕ) → size ≤ 4000 → IsScript (seeded_script seed size)
unfolding seeded_script
seeded_sound seed size fits = made_script-IsScript seed size fits

-- its canonical text is a text of it
pub seeded_text-reads : (seed size : ℕ) → size ≤ 4000 → ScriptText (canonical_text (seeded_script seed size)) (seeded_script seed size)
unfolding seeded_script
seeded_text-reads seed size fits = made_text-reads seed size fits

-- so it is the value of some text
pub seeded_told : (seed size : ℕ) → size ≤ 4000 → IsOfSomeText (seeded_script seed size)
seeded_told seed size fits = record { text = canonical_text (seeded_script seed size); is_text = seeded_text-reads seed size fits }

-- which is not too long to print
pub seeded_brief : (seed size : ℕ) → size ≤ 4000 → IsTooLongToPrint (seeded_script seed size) → ⊥
unfolding seeded_script
seeded_brief seed size fits = made_text-within seed size fits

-- the log of a trial and its summary
pub tried_so : (seed size : ℕ) (log : RunLog) (text : List ℕ) → Legal (seeded_script seed size) log → text ≡ summary_of (seeded_script seed size) log → TrialOf seed size 0 (Some log) text
tried_so seed size log text legal is = subst (λ (t : List ℕ). TrialOf seed size 0 (Some log) t) (sym is) (tried log legal)
