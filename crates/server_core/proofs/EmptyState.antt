-- Before its first command the server's state is sound.
use Rattle.std.proofs.Common.{arith}
use Rattle.std.proofs.lemmas.Bool.{false≢true}
use Rattle.std.proofs.lemmas.Option.{none-some}
use Rattle.server_core.specs.ServerState.{IsSound, empty_state}

-- generation 0 is a sound state
pub empty_sound : IsSound empty_state
empty_sound = record {
  modules = λ serial. tt;
  current = λ name. tt;
  old = λ name. tt;
  apart = λ name serial h. absurd (none-some serial h);
  one_doomed = omega arith;
  doomed = λ serial h. absurd (false≢true h);
  retired = λ serial h. absurd (false≢true h);
  released = λ serial h. absurd (false≢true h);
  live = omega arith;
  terms = λ serial. tt;
  keys = λ key. tt;
  keys_apart = λ key other serial h. absurd (none-some serial h);
  few_keys = omega arith;
  few_areas = omega arith;
}
