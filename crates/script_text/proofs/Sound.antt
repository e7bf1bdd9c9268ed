-- The script that a text says is one: its modules can be loaded, each load and each spawn can be made, and it is within the limits.
use Rattle.std.proofs.Common.{◌≡◌, ℕ, zero, suc, ◌<◌, true, false, List, [], ◌∷◌, ◌++◌, map}
use Rattle.std.proofs.Common.{Some, slice_get, sym, ap, ◌∙◌, subst, arith, append-nil}
use Rattle.script_text.proofs.Common.{AllByRecursion, and_from, Decides-eqb, Texts}
use Rattle.script_text.proofs.Types.{AtomId, Module, Script, ScriptCmd}
use Rattle.script_text.proofs.Texts.{lacks, ended_lack, some_is, given_names-IsNames}
use Rattle.script_text.proofs.Modules.{IsCmdOf, IsScript, LineForm}
use Rattle.script_text.proofs.Forms.{opening, script_of, ScriptText, is_same_mod_ref}
use Rattle.script_text.proofs.Commands.{ref_of, IsToldBy, told_command, steps_table}
use Rattle.script_text.proofs.PrintedText.{lack_of_forms}
use Rattle.script_text.proofs.StepKept.{opening_kept}
use Rattle.script_text.proofs.Told.{open_ref, AreApart, Stands, IsTold, LackFeeds, told}

-- ---- no two modules agree

apart_from : (m : Module) (ms : List Module) (j : ℕ) (n : Module) → AllByRecursion (λ s. is_same_mod_ref s (ref_of m) ≡ false) (map ref_of ms) → slice_get ms j ≡ Some n → m.name ≡ n.name → m.version ≡ n.version → ⊥
apart_from m [] j n apart at name version = absurd cc
apart_from m (t ∷ ms) zero n apart at name version =
    let is : t ≡ n = some_is t n at in
    let names = (Decides-eqb t.name.0 m.name.0).1 (ap (λ (x : Module). x.name.0) is ∙ sym (ap (λ (a : AtomId). a.0) name)) in
    let both : true ≡ false = sym (and_from _ _ names ((Decides-eqb t.version m.version).1 (ap (λ (x : Module). x.version) is ∙ sym version))) ∙ apart.0 in
    absurd cc
apart_from m (t ∷ ms) (suc j) n apart at name version = apart_from m ms j n apart.1 at name version

modules_apart : (ms : List Module) → AreApart (map ref_of ms) → (i j : ℕ) (m n : Module) → i < j → slice_get ms i ≡ Some m → slice_get ms j ≡ Some n → m.name ≡ n.name → m.version ≡ n.version → ⊥
modules_apart [] apart i j m n less at there name version = absurd cc
modules_apart (t ∷ ms) apart i zero m n less at there name version = absurd (omega arith)
modules_apart (t ∷ ms) apart zero (suc j) m n less at there name version =
    let is : t ≡ m = some_is t m at in
    apart_from t ms j n apart.0 there (ap (λ (x : Module). x.name) is ∙ name) (ap (λ (x : Module). x.version) is ∙ version)
modules_apart (t ∷ ms) apart (suc i) (suc j) m n less at there name version = modules_apart ms apart.1 i j m n (omega arith) at there name version

-- ---- commands

module _ (names : Texts) (texts : List Module) where
  block_is : (commands : List ScriptCmd) → AllByRecursion (IsToldBy names texts) commands → AllByRecursion (IsCmdOf names texts) commands
  block_is [] h = tt
  block_is (c ∷ commands) h = (told_command names texts c h.0, block_is commands h.1)

  blocks_are : (loaders : List (List ScriptCmd)) → AllByRecursion (AllByRecursion (IsToldBy names texts)) loaders → AllByRecursion (AllByRecursion (IsCmdOf names texts)) loaders
  blocks_are [] h = tt
  blocks_are (commands ∷ loaders) h = (block_is commands h.0, blocks_are loaders h.1)

-- ---- texts

module _ (text : List ℕ) (s : Script) (t : ScriptText text s) where
  -- no line of a text has a line feed
  pub feeds_lack : LackFeeds t.lines
  feeds_lack = lack_of_forms _ (subst (λ (ls : Texts). AllByRecursion (λ line. lacks 10 line ≡ true) ls) t.whole.lines_are.written (ended_lack text))

  -- what a text tells
  pub text_told : IsTold t.known.names t.lines t.known
  text_told = let are = t.whole.lines_are in told t.lines t.known are.known_is are.sound feeds_lack t.found

  pub none_open : t.known.lines ≡ []
  none_open = subst (Stands t.lines t.known) t.whole.finished text_told.stands

  pub titles_are : t.known.titles ≡ map ref_of t.known.modules
  titles_are =
      sym text_told.titles.are ∙ ap (λ (ls : List LineForm). map ref_of t.known.modules ++ open_ref t.known.names ls) none_open ∙ append-nil (map ref_of t.known.modules)

  pub script_is : IsScript (script_of t.known)
  script_is =
      let h = text_told in
      let are = t.whole.lines_are in
      let l = h.loaders in
      record {
        names = steps_table opening 1 t.lines t.known given_names-IsNames opening_kept are.sound are.known_is;
        texts = record { sound = h.modules.sound; apart = modules_apart t.known.modules (subst AreApart titles_are h.titles.apart) };
        held = h.modules.held;
        commands = blocks_are t.known.names t.known.modules t.known.loaders l.told;
        few_loaders = l.few;
        few_processes = omega (arith, l.spawns, l.few_processes);
        few_observers = h.observers.few;
        snapshots = h.observers.snapshots;
      }

-- what a text says is a script
pub sound_of : (text : List ℕ) (s : Script) → ScriptText text s → IsScript s
sound_of text s t = subst IsScript (sym t.value) (script_is text s t)
