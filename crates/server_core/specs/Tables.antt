-- What contracts see of a server: its tables as the plain state.
use Rattle.std.specs.Prelude.{◌+◌, length}
use Rattle.std.specs.Option.{option_to_list}
use Rattle.server_core.specs.Areas.{instances_in, terms_in}
use Rattle.server_core.specs.ServerState.{ServerState, IsSound}
use Rattle.server_core.specs.declared.server.Server.TheInside.{Inside}

-- the state that the tables hold: the area with serial n stands at place n - 1
abbrev pub state_of : Inside → ServerState
state_of s =
    record {
      generation = s.generation;
      next_serial = length s.areas + 1;
      instances = instances_in 1 s.areas;
      versions = s.versions.versions;
      terms = terms_in 1 s.areas;
      keys = s.keys.persistents;
      traced = s.traced;
      doomed = option_to_list s.doomed;
      retired = s.retired;
      released = s.released;
    }

-- the tables hold a sound state
abbrev pub HoldsSound : Inside → Type 0
HoldsSound s = IsSound (state_of s)
