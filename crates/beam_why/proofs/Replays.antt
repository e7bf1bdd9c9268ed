-- What a server keeps of its areas while commands are made again.
use Rattle.std.proofs.Common.{◌≡◌, List, Some, ap, sym, subst}
use Rattle.mod_core.specs.declared.code.Module.{Module}
use Rattle.server_core.specs.declared.command.Applied.{Applied}
use Rattle.server_core.specs.declared.command.Cmd.{Cmd}
use Rattle.server_core.specs.ServerState.{IsSound, ServerState}
use Rattle.server_core.specs.CommandTable.{apply_of}
use Rattle.machine_core.specs.LaterStates.{HasAreas}
use Rattle.run_log.specs.Journal.{state_after}
use Rattle.run_log.proofs.AreaWords.{areas_stay, sound_below}

-- all areas are there still
pub areas_same : (s t : ServerState) → t ≡ s → HasAreas s t
areas_same s t e = subst (HasAreas s) (sym e) (record { instances = λ serial m h. h; terms = λ serial term h. h; words = λ serial words h. h })

-- also after two steps
pub areas_more : (a b c : ServerState) → HasAreas a b → HasAreas b c → HasAreas a c
areas_more a b c f g = record {
  instances = λ serial m h. g.instances serial m (f.instances serial m h);
  terms = λ serial term h. g.terms serial term (f.terms serial term h);
  words = λ serial words h. g.words serial words (f.words serial words h);
}

-- and after a command that was made
pub areas_made : (texts : List Module) (s t : ServerState) (cmd : Cmd) (answer : Applied) → IsSound s → apply_of texts s cmd ≡ Some (record { state = t; answer = answer }) → HasAreas s t
areas_made texts s t cmd answer sound e = subst (HasAreas s) (ap (state_after s) e) (areas_stay texts s cmd (sound_below s sound))
