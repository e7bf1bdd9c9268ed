-- How many bytes are taken from the source, by the form of the words.
use Rattle.std.proofs.Common.{◌≡◌, ℕ, List, [], Option, Some, None, refl, sym, subst, arith}
use Rattle.std.specs.Io.KnownBytes.{Consumes}
use Rattle.outside.specs.Outside.{TakesUpTo}
use Rattle.beam_tool.specs.declared.form.Form.{Form}
use Rattle.beam_tool.specs.TopCall.{most_taken}

takes_nothing : (left : Option (List ℕ)) → Consumes left left []
takes_nothing None = tt
takes_nothing (Some bytes) = refl

-- words of no form take nothing
pub stops_unread : (form : Option Form) (left left' : Option (List ℕ)) → form ≡ None → left' ≡ left → TakesUpTo (most_taken form) left left'
stops_unread form left left' none same =
    subst (λ (f : Option Form). TakesUpTo (most_taken f) left left') (sym none)
    (subst (λ (l : Option (List ℕ)). TakesUpTo 0 left l) (sym same) (record { bytes = []; gone = takes_nothing left; bound = omega arith }))

-- words of a form take what the form does
pub stops_by : (form : Option Form) (found : Form) (left left' : Option (List ℕ)) → form ≡ Some found → TakesUpTo (most_taken (Some found)) left left' → TakesUpTo (most_taken form) left left'
stops_by form found left left' is stops = subst (λ (f : Option Form). TakesUpTo (most_taken f) left left') (sym is) stops

-- the same of one form
pub stops_so : (form wanted : Form) (left left' : Option (List ℕ)) → form ≡ wanted → TakesUpTo (most_taken (Some wanted)) left left' → TakesUpTo (most_taken (Some form)) left left'
stops_so form wanted left left' is stops = subst (λ (f : Form). TakesUpTo (most_taken (Some f)) left left') (sym is) stops
