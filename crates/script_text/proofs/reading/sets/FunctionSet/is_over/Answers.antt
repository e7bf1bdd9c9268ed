use Rattle.script_text.proofs.Common.{◌≡◌, List, subst, not, map}
use Rattle.script_text.proofs.Types.{Mfa}
use Rattle.script_text.proofs.Forms.{mfa_of_key, passes_functions}
use Rattle.script_text.proofs.KeySets.{full_for}
use Rattle.script_text.proofs.reading.sets.FunctionSet.is_over.Goals as goal

-- the set is full for what it has not
pub returns-then-len-ge-MOST_FUNCTION_NAMES : goal.returns-then-len-ge-MOST_FUNCTION_NAMES
returns-then-len-ge-MOST_FUNCTION_NAMES c =
    let Over : List Mfa → Mfa → Type 0 = λ fs f. not c.contains.result ≡ passes_functions fs f in
    subst (λ (fs : List Mfa). Over fs c.args.function) c.self.view_is (subst (Over (map mfa_of_key c.self.inside.keys.keys)) c.function_key.ensures (full_for c.function_key.result c.self.inside.keys.keys c.len.result c.contains.result c.contains.ensures c.len.ensures.len c.if-len-ge-MOST_FUNCTION_NAMES.true))
