-- That code read from words is the code of the module whose image they are.
use Rattle.std.proofs.Common.{◌≡◌, ◌≤◌, ◌+◌, ◌*◌, ◌/◌, ◌∙◌, ℕ, refl, ap, subst, sym, List, [], length, slice_get, slice_index, Some}
use Rattle.std.proofs.lemmas.Option.{slice_get_within}
use Rattle.term_core.specs.declared.area.AreaRef.{AreaRef}
use Rattle.term_core.specs.declared.atom.Mfa.{Mfa}
use Rattle.term_core.specs.declared.generation.Generation.{Generation}
use Rattle.mod_core.specs.declared.code.Function.{Function}
use Rattle.mod_core.specs.declared.code.Module.{Module}
use Rattle.mod_core.specs.ModuleImage.{function_place, place_in}
use Rattle.server_core.specs.ServerState.{Entry}
use Rattle.machine_core.specs.Decode.{instr_shown, op_at}
use Rattle.machine_core.specs.GenerationReads.{function_count, instr_under, reads_in, shown_in, words_in}
use Rattle.machine_core.specs.Process.{PlainFrame}
use Rattle.machine_core.specs.ServerReads.{module_instr}
use Rattle.machine_core.specs.View.{IsReadFunction, IsImageOf, IsOfModule, Shown}
use Rattle.machine_core.proofs.CalledNames.{named_from}
use Rattle.machine_core.proofs.Fetching.{fetched_next}
use Rattle.machine_core.proofs.NextInstr.{IsNext, instr_is, instr_stands}
use Rattle.machine_core.proofs.Viewing.{entry_at}

module _ (names : List Mfa) (block : ℕ → ℕ) (g : Generation) (shown : Shown) (serial : ℕ) (m : Module) (is : IsOfModule shown serial m) (same : words_in g serial ≡ shown.words serial) where
  instr_read : (i number : ℕ) (f : Function) → slice_get m.functions i ≡ Some f → number ≤ length f.code →
      instr_under g (record { serial = serial; function = i }) (place_in (function_place m i) f.code number) ≡ module_instr m i (place_in (function_place m i) f.code number)
  instr_read i number f found within =
      let place = place_in (function_place m i) f.code number in
      let e : Entry = record { serial = serial; function = i } in
      let frame : PlainFrame = record { serial = serial; function = i; place = place; back = 0; registers = [] } in
      let next : IsNext shown frame = record { m = m; function = f; number = number; loaded = is; found = found; within = within; place = refl; instr = instr_is shown e m f is found number within } in
      let area : AreaRef = record { serial = serial; block = shown.block serial } in
      let fetched = fetched_next shown area frame refl refl next (instr_stands shown frame next) in
      ap (λ words. instr_shown words (op_at words place)) same ∙ fetched.back.shows ∙ (is.functions i f found).instrs number within

  function_read : (i : ℕ) (f : Function) → slice_get m.functions i ≡ Some f → IsReadFunction (reads_in names g) (record { serial = serial; function = i }) m f
  function_read i f found =
      let e : Entry = record { serial = serial; function = i } in
      let within = slice_get_within m.functions i f found in
      let named = named_from shown e m f is found within in
      let first = entry_at shown e m f is within found in
      let read = is.functions i f found in
      record {
        name = ap (λ n. record { 0 = n }) (ap (λ words. slice_index words (4 + 4 * i)) same ∙ named.name_word.value ∙ ap (λ a. a.0) read.name);
        arity = ap (λ words. slice_index words (4 + 4 * i + 1) / 2) same ∙ named.arity_value ∙ read.arity;
        first = ap (λ words. slice_index words (4 + 4 * i + 3)) same ∙ first.word ∙ read.first;
        instrs = λ number within. instr_read i number f found within;
      }

  -- what a generation says of an instance is what its module says, where its words are those of a view that says so
  pub module_read : function_count (words_in g serial) ≡ length m.functions → slice_index (words_in g serial) 1 ≡ m.name.0 → IsOfModule (shown_in names block g) serial m
  module_read count name = record {
    sound = is.sound;
    name = ap (λ n. record { 0 = n }) name;
    count = count;
    functions = λ i f found. function_read i f found;
    image = subst (IsImageOf m) (sym same) is.image;
  }
