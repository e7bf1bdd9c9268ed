use Rattle.script_text.proofs.Common.{◌≡◌, Ok, List, subst, false, map}
use Rattle.script_text.proofs.Types.{ModRef}
use Rattle.script_text.proofs.Forms.{ref_of_key, is_among, ref_added}
use Rattle.script_text.proofs.KeySets.{ref_key_added}
use Rattle.script_text.proofs.reading.sets.RefSet.add.Goals as goal

-- the key that is new stands behind the others
pub returns : goal.returns
returns c =
    let new = map ref_of_key c.insert.new.self.keys in
    let Added : List ModRef → ModRef → Type 0 = λ refs to. false ≡ is_among refs to → ref_added refs to ≡ Ok new in
    subst (λ (refs : List ModRef). Added refs c.args.to) c.self.view_is (subst (Added (map ref_of_key c.self.inside.keys.keys)) c.ref_key.ensures (λ fresh. ref_key_added c.ref_key.result c.self.inside.keys.keys c.insert.new.self.keys fresh c.in_ok-insert.ensures.keys)) c.if-has.ensures
