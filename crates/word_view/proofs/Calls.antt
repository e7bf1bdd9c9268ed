-- What calls by names reach, by the words of the active code index.
use Rattle.std.proofs.Common.{◌≡◌, ℕ, ◌<◌, List, Option, Some, None, refl, sym, ap, ◌∙◌, arith}
use Rattle.std.specs.Prelude.{IfSome, slice_get, unwrap_or, option_and_then, option_map}
use Rattle.term_core.specs.declared.area.CodeRef.{CodeRef}
use Rattle.term_core.specs.declared.atom.Mfa.{Mfa}
use Rattle.term_core.specs.declared.generation.FunctionRef.{FunctionRef}
use Rattle.area_core.specs.declared.table.Published.{Published}
use Rattle.area_core.specs.Roots.{serial_image}
use Rattle.shared_words.specs.declared.opening.Opening.{Opening}
use Rattle.shared_words.specs.declared.view.MemberView.{MemberView}
use Rattle.shared_words.specs.Processes.{held_by_view}
use Rattle.server_core.specs.Generations.{number_of_name}
use Rattle.server_core.specs.ServerState.{entry_of}
use Rattle.machine_core.specs.GenerationReads.{block_among}
use Rattle.machine_core.specs.Reads.{HasFunction, dispatched}
use Rattle.machine_core.specs.View.{IsInBlock, IsLawful, Shown}
use Rattle.machine_core.proofs.Calling.{dispatch_reaches, reached_known}
use Rattle.machine_core.proofs.Viewing.{is_entry}
use Rattle.word_view.specs.Loaded.{IsCallable, IsCodeOf, LeadsOn, export_at}
use Rattle.word_view.specs.Views.{IsReader, shown_by}
use Rattle.word_view.proofs.Coming.{block_listed, current_there, once}
use Rattle.word_view.proofs.Exporting.{code_entry, code_listed}
use Rattle.word_view.proofs.KeptHere.{used_current}
use Rattle.code_law.proofs.ServedAreas.{begins_with}
use Rattle.code_law.proofs.States.{entry_ref, served_calls, served_lawful}

module _ (names : List Mfa) (opening : Opening) (process : ℕ) (m : MemberView) (h : IsReader names opening process m) (to : Mfa) where
  abbrev p : Published
  p = held_by_view m

  -- a name without a number reaches nothing
  pub nothing_reached : number_of_name names to ≡ None → dispatched (shown_by names p).reads to ≡ None
  nothing_reached none =
      served_calls names p.state h.served.of to ∙ ap (λ (o : Option ℕ). option_map entry_ref (option_and_then (λ n. unwrap_or (slice_get p.state.exports n) None) o)) none

  -- another one what the code index has at its number
  pub reached_at : (n : ℕ) → number_of_name names to ≡ Some n → dispatched (shown_by names p).reads to ≡ option_map entry_ref (export_at p n)
  reached_at n is =
      served_calls names p.state h.served.of to ∙ ap (λ (o : Option ℕ). option_map entry_ref (option_and_then (λ k. unwrap_or (slice_get p.state.exports k) None) o)) is

  callable : (n : ℕ) (f : FunctionRef) → number_of_name names to ≡ Some n → export_at p n ≡ Some f → IsCallable m f
  callable n f is e =
      let shown : Shown = shown_by names p in
      let lawful : IsLawful shown = served_lawful names p.state h.served.of (block_among p.areas) in
      let reached : dispatched shown.reads to ≡ Some (entry_ref f) = reached_at n is ∙ ap (option_map entry_ref) e in
      let known : HasFunction shown.reads (entry_ref f) = reached_known shown to (entry_ref f) lawful reached in
      let current = current_there names p f.serial (dispatch_reaches shown.reads to (entry_ref f) reached).current in
      let s = h.used f.serial (used_current p f.serial current) in
      record {
        few = (is_entry shown (entry_ref f) lawful known).few;
        current = current;
        area = s.area;
        is = s.is;
        words = s.words;
        stands = s.stands;
        once = once names opening process m h;
        headed = begins_with names p.state h.served.of f.serial s.words (some_of f.function (shown.reads.functions f.serial) known) (ap (serial_image p.state.areas) (sym s.is) ∙ s.stands.image);
      }
    where
      some_of : (i n : ℕ) → i < n → 0 < n
      some_of i n less = omega (arith, less)

  -- which is a function that may be called, if there is one
  pub leads_callable : (n : ℕ) → number_of_name names to ≡ Some n → LeadsOn m (export_at p n)
  leads_callable n is = by_export (export_at p n) refl
    where
      by_export : (o : Option FunctionRef) → export_at p n ≡ o → LeadsOn m o
      by_export None e = tt
      by_export (Some f) e = callable n f is e

  -- what was found is what the call reaches
  pub export_value : (n : ℕ) (r : Option CodeRef) → number_of_name names to ≡ Some n → IsCodeOf p (export_at p n) r → option_map entry_of r ≡ dispatched (shown_by names p).reads to
  export_value n r is code = code_entry p (export_at p n) r code ∙ sym (reached_at n is)

  -- and stands in its block
  pub export_stands : (n : ℕ) (r : Option CodeRef) → IsCodeOf p (export_at p n) r → IfSome r (λ at. IsInBlock (shown_by names p) at.area)
  export_stands n None code = tt
  export_stands n (Some at) code = sym (block_listed p.areas h.areas at.area (code_listed p (export_at p n) at code))
