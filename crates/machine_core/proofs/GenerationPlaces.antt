-- That two records which say of an instance what one module says agree on its functions, and on where a frame may stand in them.
use Rattle.std.proofs.Common.{◌≡◌, ◌+◌, ◌∙◌, ℕ, false, sym, ap, subst, arith, [], slice_get, get_or, Some}
use Rattle.std.proofs.lemmas.Option.{slice_get-get_or}
use Rattle.mod_core.specs.declared.code.Function.{Function}
use Rattle.mod_core.specs.declared.code.Instr.{Instr}
use Rattle.mod_core.specs.declared.code.Module.{Module}
use Rattle.mod_core.specs.ModuleImage.{instr_len}
use Rattle.server_core.specs.ServerState.{Entry}
use Rattle.machine_core.specs.Process.{PlainFrame}
use Rattle.machine_core.specs.Reads.{HasFunction, entry_at}
use Rattle.machine_core.specs.Turn.{IsPlaceIn, IsPlaced, stands_at, stands_behind, stands_first, target_of, goes_past}
use Rattle.machine_core.specs.View.{IsOfModule, Shown}
use Rattle.machine_core.proofs.NextInstr.{numbered_place, there}
use Rattle.machine_core.proofs.SameReads.{IsSameFunction}

module _ (a b : Shown) (e : Entry) (m : Module) (first : IsOfModule a e.serial m) (second : IsOfModule b e.serial m) (known : HasFunction a.reads e) where
  none : Function
  none = record { name = m.name; arity = 0; exported = false; code = [] }

  there_is : slice_get m.functions e.function ≡ Some (get_or m.functions e.function none)
  there_is = slice_get-get_or m.functions e.function none (let count = first.count in omega (arith, known, count))

  instr_same : (f : Function) (place : ℕ) → slice_get m.functions e.function ≡ Some f → IsPlaceIn (a.reads.first e) (a.reads.instr e) place → b.reads.instr e place ≡ a.reads.instr e place
  instr_same f place found at =
      let n = numbered_place a e m f first found place at in
      there b e m f second found place n ∙ sym (there a e m f first found place n)

  same_by : (f : Function) → slice_get m.functions e.function ≡ Some f → b.reads.traced e ≡ a.reads.traced e → IsSameFunction a.reads b.reads e
  same_by f found traced =
      let x = first.functions e.function f found in
      let y = second.functions e.function f found in
      let module_same = second.name ∙ sym first.name in
      let name_same = y.name ∙ sym x.name in
      let arity_same = y.arity ∙ sym x.arity in
      record {
        name = cc (module_same, name_same, arity_same);
        first = y.first ∙ sym x.first;
        traced = traced;
        instr = λ place at. instr_same f place found at;
      }

  -- they say the same of each of its functions
  pub same_function : b.reads.traced e ≡ a.reads.traced e → IsSameFunction a.reads b.reads e
  same_function traced = same_by (get_or m.functions e.function none) there_is traced

-- places are the same where the instructions at them are
pub place_same : (first other : ℕ) (i j : ℕ → Instr) (place : ℕ) → other ≡ first → ((place : ℕ) → IsPlaceIn first i place → j place ≡ i place) → IsPlaceIn first i place → IsPlaceIn other j place
place_same first other i j place e same stands_first = subst (λ p. IsPlaceIn other j p) e stands_first
place_same first other i j place e same (stands_behind before p goes) =
    subst (λ k. IsPlaceIn other j (before + k)) (ap instr_len (same before p)) (stands_behind before (place_same first other i j before e same p) (ap goes_past (same before p) ∙ goes))
place_same first other i j place e same (stands_at before to p goes) = stands_at before to (place_same first other i j before e same p) (ap target_of (same before p) ∙ goes)

-- a frame that stands by the one stands by the other
pub placed_same : (a b : Shown) (f : PlainFrame) (m : Module) → IsOfModule a f.serial m → IsOfModule b f.serial m → b.reads.traced (entry_at f) ≡ a.reads.traced (entry_at f) → IsPlaced a.reads f → IsPlaced b.reads f
placed_same a b f m first second traced p =
    let same = same_function a b (entry_at f) m first second p.known traced in
    record {
      known = let one = first.count in let two = second.count in omega (arith, p.known, one, two);
      at = place_same (a.reads.first (entry_at f)) (b.reads.first (entry_at f)) (a.reads.instr (entry_at f)) (b.reads.instr (entry_at f)) f.place same.first same.instr p.at;
      back = p.back;
    }
