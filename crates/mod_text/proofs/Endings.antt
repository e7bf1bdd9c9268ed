-- Each clause on a text that was read, by the ways to end.
use Rattle.mod_text.proofs.Common.{◌≡◌, ℕ, ◌+◌, ◌≤◌, length, List, [], Option, Some, None, Result, Ok, Err}
use Rattle.mod_text.proofs.Common.{refl, sym, ap, ◌∙◌, subst, ◌⊎◌, inl, inr, IfOk, IfErr, Texts}
use Rattle.term_core.specs.Gives.{GivesUnless, RefusesUnless}
use Rattle.mod_text.proofs.Types.{Module, FinishFault, LineFault, LineStop, ModFault}
use Rattle.mod_text.proofs.Forms.{Ends, read, missing, stopped, no_memory, IsFaultOr, IsLabelFault}
use Rattle.mod_text.proofs.Forms.{LineForm, ModuleText, FirstFault, MissingAt, HasModFault, mod_fault}
use Rattle.mod_text.proofs.Forms.{names_behind, module_of, unsettled_line, IsTitled, IsMissing}
use Rattle.mod_text.proofs.Forms.{Read, stop_at, bytes_on, UnlessNoMemory, StopsSo}
use Rattle.mod_core.specs.Module.{IsModule}
use Rattle.mod_text.proofs.ModuleSound.{module_is_sound}
use Rattle.mod_text.proofs.TextLaws.{ok_is, bytes_are_read, lines_again, first_fault, fault_again, titled_is}
use Rattle.mod_text.specs.declared.fault.ModFault.TheVariants as mod_faults
use Rattle.mod_text.specs.declared.fault.LineFault.TheVariants as faults
use Rattle.mod_text.specs.declared.fault.FinishFault.TheVariants as finish_faults

module _ (before : Texts) (bytes : List ℕ) (first : ℕ) (after : Texts) where
  -- ---- how it ends

  -- a reader that was closed begins with its title
  pub titled : (forms : List LineForm) → bytes_on before [] bytes ≡ Ok (after, forms) → IsTitled forms
  titled forms e = let is = bytes_are_read _ bytes after forms e in titled_is _ forms is.faultless is.closed

  pub stopped_ends : (stop : LineStop) (fault : ModFault) → StopsSo (bytes_on before [] bytes) stop → IsFaultOr fault (mod_fault (first + stop.number) stop.fault) → Ends before bytes first after (Err fault)
  stopped_ends stop fault so (inl is) = stopped stop fault so is
  stopped_ends stop fault so (inr is) = no_memory fault is

  missing_ends : (forms : List LineForm) (number : ℕ) (fault : ModFault) → bytes_on before [] bytes ≡ Ok (after, forms) → unsettled_line forms ≡ Some number → IsFaultOr fault (mod_faults.Label (first + number)) → Ends before bytes first after (Err fault)
  missing_ends forms number fault e lacking (inl is) = missing forms _ fault e lacking is
  missing_ends forms number fault e lacking (inr is) = no_memory fault is

  pub unsettled_ends : (forms : List LineForm) (unsettled : FinishFault) (fault : ModFault) → bytes_on before [] bytes ≡ Ok (after, forms) → IsMissing forms unsettled → IsLabelFault first unsettled fault → Ends before bytes first after (Err fault)
  unsettled_ends forms (finish_faults.Missing number) fault e lacking is = missing_ends forms number fault e lacking is
  unsettled_ends forms finish_faults.NoMemory fault e lacking is = no_memory fault is

  -- ---- what was read

  pub read_is : (r : Result Module ModFault) → Ends before bytes first after r → IfOk r (λ m. ModuleText before bytes m after)
  read_is _ (read forms m e value settled) =
      let is = bytes_are_read _ bytes after forms e in
      record { lines = forms; spelled = is.spelled; faultless = is.faultless; closed = is.closed; settled = settled; named = is.names_are; value = value }
  read_is _ _ = tt

  -- and a module
  pub sound_is : (r : Result Module ModFault) → length before ≤ 4096 → Ends before bytes first after r → IfOk r IsModule
  sound_is _ room (read forms m e value settled) = module_is_sound before bytes m after room (read_is (Ok m) (read forms m e value settled))
  sound_is _ room _ = tt

  -- ---- each text of a module is read

  same_read : (forms others : List LineForm) (names named : Texts) → bytes_on before [] bytes ≡ Ok (names, forms) → bytes_on before [] bytes ≡ Ok (named, others) → (names ≡ named) × (forms ≡ others)
  same_read forms others names named e f =
      let whole : ◌≡◌ {A = Read} (Ok (names, forms)) (Ok (named, others)) = sym e ∙ f in
      let same : ◌≡◌ {A = Texts × List LineForm} (names, forms) (named, others) = ok_is _ _ whole in
      (ap (λ p. p.0) same, ap (λ p. p.1) same)

  stop_by : (stop : LineStop) (fault : LineFault) (forms : List LineForm) (named : Texts) → UnlessNoMemory fault (bytes_on before [] bytes ≡ Err stop) → bytes_on before [] bytes ≡ Ok (named, forms) → fault ≡ faults.NoMemory
  stop_by stop faults.NoMemory forms named so e = refl
  stop_by stop fault forms named so e = absurd cc

  -- where the lines are read, no line stops the reading
  never_stops : (stop : LineStop) (fault : ModFault) (forms : List LineForm) (named : Texts) → StopsSo (bytes_on before [] bytes) stop → fault ≡ mod_fault (first + stop.number) stop.fault → bytes_on before [] bytes ≡ Ok (named, forms) → fault ≡ mod_faults.NoMemory
  never_stops stop fault forms named so is e = is ∙ ap (mod_fault (first + stop.number)) (stop_by stop _ forms named so e)

  pub only_read : (r : Result Module ModFault) → Ends before bytes first after r → (m : Module) (named : Texts) → ModuleText before bytes m named → GivesUnless mod_faults.NoMemory r m
  only_read r ends m named text =
      by_end r ends (ap (bytes_on before []) text.spelled ∙ lines_again before text.lines text.faultless text.closed ∙ ap (λ ns. Ok (ns, text.lines)) (sym text.named))
    where
      by_end : (r : Result Module ModFault) → Ends before bytes first after r → bytes_on before [] bytes ≡ Ok (named, text.lines) → GivesUnless mod_faults.NoMemory r m
      by_end _ (read forms other e value settled) f =
          let same = same_read forms _ after named e f in
          value ∙ (λ i. module_of (same.0 i) (same.1 i)) ∙ sym text.value
      by_end _ (missing forms number fault e lacking is) f =
          let none : ◌≡◌ {A = Option ℕ} (Some number) None = sym lacking ∙ ap unsettled_line (same_read forms _ after named e f).1 ∙ text.settled in
          absurd cc
      by_end _ (stopped stop fault so is) f = never_stops stop fault _ named so is f
      by_end _ (no_memory fault is) f = is

  -- ---- the cause of each refusal

  stop_cause : (number : ℕ) (fault : LineFault) → UnlessNoMemory fault (bytes_on before [] bytes ≡ stop_at number fault) → HasModFault before bytes first (mod_fault (first + number) fault)
  stop_cause number faults.NoMemory so = tt
  stop_cause number fault so = (number, refl, first_fault _ bytes _ so)

  pub cause_is : (r : Result Module ModFault) → Ends before bytes first after r → IfErr r (HasModFault before bytes first)
  cause_is _ (read forms m e value settled) = tt
  cause_is _ (missing forms number fault e lacking is) =
      let read_so = bytes_are_read _ bytes after forms e in
      subst (HasModFault before bytes first) (sym is) (number, refl, record { lines = forms; spelled = read_so.spelled; faultless = read_so.faultless; closed = read_so.closed; missing = lacking })
  cause_is _ (stopped stop fault so is) = subst (HasModFault before bytes first) (sym is) (stop_cause _ _ so)
  cause_is _ (no_memory fault is) = subst (HasModFault before bytes first) (sym is) tt

  -- ---- each cause its refusal

  same_stop : (stop other : LineStop) → bytes_on before [] bytes ≡ Err stop → bytes_on before [] bytes ≡ Err other → stop ≡ other
  same_stop stop other e f =
      let same : ◌≡◌ {A = Read} (Err stop) (Err other) = sym e ∙ f in
      cc

  by_stop : (number at : ℕ) (fault other : LineFault) → UnlessNoMemory other (bytes_on before [] bytes ≡ stop_at at other) → bytes_on before [] bytes ≡ stop_at number fault → IsFaultOr (mod_fault (first + at) other) (mod_fault (first + number) fault)
  by_stop number at fault other so e =
      elim (memory_or other so) as (λ _. IsFaultOr (mod_fault (first + at) other) (mod_fault (first + number) fault)) [
        | inl none ↦ inr (ap (mod_fault (first + at)) none)
        | inr is ↦
            inl (ap (λ (s : LineStop). mod_fault (first + s.number) s.fault) (same_stop _ _ is e))
      ]
    where
      memory_or : (o : LineFault) → UnlessNoMemory o (bytes_on before [] bytes ≡ stop_at at other) → (o ≡ faults.NoMemory) ⊎ (bytes_on before [] bytes ≡ stop_at at other)
      memory_or faults.NoMemory h = inl refl
      memory_or fault h = inr h

  pub fault_refuses : (r : Result Module ModFault) → Ends before bytes first after r → (number : ℕ) (fault : LineFault) → FirstFault before bytes number fault → RefusesUnless mod_faults.NoMemory r (mod_fault (first + number) fault)
  fault_refuses r ends number fault is_first = by_end r ends (fault_again before bytes number fault is_first)
    where
      by_end : (r : Result Module ModFault) → Ends before bytes first after r → bytes_on before [] bytes ≡ stop_at number fault → RefusesUnless mod_faults.NoMemory r (mod_fault (first + number) fault)
      by_end _ (read forms other e value settled) f = absurd (let same : ◌≡◌ {A = Read} (Ok (after, forms)) (stop_at number fault) = sym e ∙ f in cc)
      by_end _ (missing forms at other e lacking is) f = absurd (let same : ◌≡◌ {A = Read} (Ok (after, forms)) (stop_at number fault) = sym e ∙ f in cc)
      by_end _ (stopped stop other so is) f = subst (λ o. IsFaultOr o (mod_fault (first + number) fault)) (sym is) (by_stop number stop.number fault stop.fault so f)
      by_end _ (no_memory other is) f = inr is

  pub missing_refuses : (r : Result Module ModFault) → Ends before bytes first after r → (number : ℕ) → MissingAt before bytes number → RefusesUnless mod_faults.NoMemory r (mod_faults.Label (first + number))
  missing_refuses r ends number at = by_end r ends (ap (bytes_on before []) at.spelled ∙ lines_again before at.lines at.faultless at.closed)
    where
      by_end : (r : Result Module ModFault) → Ends before bytes first after r → bytes_on before [] bytes ≡ Ok (names_behind before at.lines, at.lines) → RefusesUnless mod_faults.NoMemory r (mod_faults.Label (first + number))
      by_end _ (read forms m e value settled) f =
          let same = same_read forms at.lines after (names_behind before at.lines) e f in
          let none : ◌≡◌ {A = Option ℕ} None (Some number) = sym settled ∙ ap unsettled_line same.1 ∙ at.missing in
          absurd cc
      by_end _ (missing forms other fault e lacking is) f =
          let same = same_read forms at.lines after (names_behind before at.lines) e f in
          let number_is : ◌≡◌ {A = Option ℕ} (Some other) (Some number) = sym lacking ∙ ap unsettled_line same.1 ∙ at.missing in
          inl (is ∙ ap (λ n. mod_faults.Label (first + n)) cc)
      by_end _ (stopped stop fault so is) f = inr (never_stops stop fault at.lines (names_behind before at.lines) so is f)
      by_end _ (no_memory fault is) f = inr is
