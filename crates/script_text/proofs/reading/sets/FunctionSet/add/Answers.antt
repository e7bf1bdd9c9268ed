use Rattle.script_text.proofs.Common.{◌≡◌, Ok, List, subst, false, map}
use Rattle.script_text.proofs.Types.{Mfa}
use Rattle.script_text.proofs.Forms.{mfa_of_key, passes_functions, mfa_added}
use Rattle.script_text.proofs.KeySets.{function_key_added}
use Rattle.script_text.proofs.reading.sets.FunctionSet.add.Goals as goal

-- the key that is new stands behind the others
pub returns : goal.returns
returns c =
    let new = map mfa_of_key c.insert.new.self.keys in
    let Added : List Mfa → Mfa → Type 0 = λ fs f. false ≡ passes_functions fs f → mfa_added fs f ≡ Ok new in
    subst (λ (fs : List Mfa). Added fs c.args.function) c.self.view_is (subst (Added (map mfa_of_key c.self.inside.keys.keys)) c.function_key.ensures (λ room. function_key_added c.function_key.result c.self.inside.keys.keys c.insert.new.self.keys room c.in_ok-insert.ensures.keys)) c.if-is_over.ensures
