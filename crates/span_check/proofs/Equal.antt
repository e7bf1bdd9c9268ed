-- What the tests for equal values and lines say.
use Rattle.std.proofs.Common.{◌≡◌, ◌∙◌, ◌&&◌, ◌==◌, ap, sym, refl, Bool, true, false, List, ◌++◌, drop, length}
use Rattle.std.proofs.lemmas.Bool.{eqb-true, eq-eqb, and_parts, and_from}
use Rattle.std.proofs.lemmas.Slice.Eq.{slice_eq-Decides, starts_is}
use Rattle.std.specs.Bool.{Decides, IsTrue}
use Rattle.std.specs.Cmp.Lexicographic.{pointwise}
use Rattle.std.specs.List.{starts_with}
use Rattle.term_core.specs.Plain.{plain}
use Rattle.term_core.specs.PlainTerm.{PlainTerm, row_of, terms_of}
use Rattle.term_core.specs.Same.{are_same, is_same-Decides, is_same_row-Decides}
use Rattle.term_core.proofs.PlainTerms.{plain-injective}
use Rattle.machine_core.specs.declared.process.Frame.{Frame}
use Rattle.machine_core.specs.declared.process.Line.{Line}
use Rattle.machine_core.specs.declared.process.Line.TheVariants.{Print, Trace}
use Rattle.machine_core.specs.declared.process.Value.{Value}
use Rattle.machine_core.specs.declared.process.Value.TheVariants.{Owned, Literal}
use Rattle.machine_core.specs.contracts.process.ValuePartialEq.TheImpl as value_impl
use Rattle.machine_core.specs.contracts.process.LinePartialEq.TheImpl as line_impl
use Rattle.term_core.proofs.TokenLaws.{terms_of-row_of}

abbrev pub value_eq : Value → Value → Bool
value_eq = (value_impl.eq-value).it

abbrev pub line_eq : Line → Line → Bool
line_eq = (line_impl.eq-value).it

-- values that pass the test are one
value_same : (v w : Value) → value_eq v w ≡ true → v ≡ w
value_same (Owned t) (Owned u) h = ap Owned (plain-injective t u ((is_same-Decides (plain t) (plain u)).0 h))
value_same (Owned t) (Literal b) h = cc
value_same (Literal a) (Owned u) h = cc
value_same (Literal a) (Literal b) h =
    let k = and_parts (a.area.serial == b.area.serial && a.area.block == b.area.block) (a.at == b.at) h in
    let j = and_parts (a.area.serial == b.area.serial) (a.area.block == b.area.block) k.0 in
    λ i. Literal (record { area = record { serial = eqb-true a.area.serial b.area.serial j.0 i; block = eqb-true a.area.block b.area.block j.1 i }; at = eqb-true a.at b.at k.1 i })

value_itself : (v : Value) → value_eq v v ≡ true
value_itself (Owned t) = (is_same-Decides (plain t) (plain t)).1 refl
value_itself (Literal a) =
    and_from (a.area.serial == a.area.serial && a.area.block == a.area.block) (a.at == a.at)
    (and_from (a.area.serial == a.area.serial) (a.area.block == a.area.block) (eq-eqb a.area.serial a.area.serial refl) (eq-eqb a.area.block a.area.block refl)) (eq-eqb a.at a.at refl)

value_decides : (v w : Value) → Decides (value_eq v w) (v ≡ w)
value_decides v w = (value_same v w, λ e. ap (value_eq v) (sym e) ∙ value_itself v)

row_same : (args others : List PlainTerm) → are_same args others ≡ true → args ≡ others
row_same args others h = sym (terms_of-row_of args) ∙ ap terms_of ((is_same_row-Decides (row_of args) (row_of others)).0 h) ∙ terms_of-row_of others

-- and so are lines
line_same : (l m : Line) → line_eq l m ≡ true → l ≡ m
line_same (Print t) (Print u) h = ap Print (plain-injective t u ((is_same-Decides (plain t) (plain u)).0 h))
line_same (Print t) (Trace on others) h = cc
line_same (Trace to args) (Print u) h = cc
line_same (Trace to args) (Trace on others) h =
    let k = and_parts (to.«module».0 == on.«module».0 && (to.name.0 == on.name.0 && to.arity == on.arity)) (are_same args others) h in
    let j = and_parts (to.«module».0 == on.«module».0) (to.name.0 == on.name.0 && to.arity == on.arity) k.0 in
    let n = and_parts (to.name.0 == on.name.0) (to.arity == on.arity) j.1 in
    λ i. Trace (record {
      «module» = record { 0 = eqb-true to.«module».0 on.«module».0 j.0 i };
      name = record { 0 = eqb-true to.name.0 on.name.0 n.0 i };
      arity = eqb-true to.arity on.arity n.1 i;
    }) (row_same args others k.1 i)

line_itself : (l : Line) → line_eq l l ≡ true
line_itself (Print t) = (is_same-Decides (plain t) (plain t)).1 refl
line_itself (Trace to args) =
    and_from (to.«module».0 == to.«module».0 && (to.name.0 == to.name.0 && to.arity == to.arity)) (are_same args args)
    (and_from (to.«module».0 == to.«module».0) (to.name.0 == to.name.0 && to.arity == to.arity) (eq-eqb to.«module».0 to.«module».0 refl)
    (and_from (to.name.0 == to.name.0) (to.arity == to.arity) (eq-eqb to.name.0 to.name.0 refl) (eq-eqb to.arity to.arity refl)))
    ((is_same_row-Decides (row_of args) (row_of args)).1 refl)

line_decides : (l m : Line) → Decides (line_eq l m) (l ≡ m)
line_decides l m = (line_same l m, λ e. ap (line_eq l) (sym e) ∙ line_itself l)

-- frames with the same parts
pub frame_same : (f g : Frame) (xs ys : List Value) (same : Bool) → f.code ≡ g.code → f.place ≡ g.place → f.back ≡ g.back → xs ≡ f.registers → ys ≡ g.registers → same ≡ pointwise value_eq xs ys → IsTrue same → f ≡ g
frame_same f g xs ys same code place back mine theirs is h =
    let values : f.registers ≡ g.registers = sym mine ∙ (slice_eq-Decides value_decides xs ys same is).0 h ∙ theirs in
    λ i. record { code = code i; place = place i; back = back i; registers = values i }

-- lines that begin with others, and lines that do not
pub begins : (lines front : List Line) (test : Bool) → test ≡ starts_with line_eq lines front → test ≡ true → lines ≡ front ++ drop (length front) lines
begins lines front test is h = (starts_is line_decides lines front test is).0 h

pub not_begins : (lines front : List Line) (test : Bool) → test ≡ starts_with line_eq lines front → test ≡ false → (rest : List Line) → lines ≡ front ++ rest → ⊥
not_begins lines front test is h rest e = differ (sym ((starts_is line_decides lines front test is).1 rest e) ∙ h)
  where
    differ : true ≡ false → ⊥
    differ k = cc
