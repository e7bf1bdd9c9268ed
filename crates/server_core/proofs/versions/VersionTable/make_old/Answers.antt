-- The map after the insertion, its versions, and how many of them are live.
use Rattle.std.proofs.Common.{◌≡◌, ap, map, None, arith}
use Rattle.server_core.specs.VersionTable.{versions_of}
use Rattle.server_core.specs.ServerState.{live_count}
use Rattle.server_core.specs.Rooms.{with_made_old}
use Rattle.server_core.proofs.CurrentCode.{current_in_map, live_made_old, put_versions}
use Rattle.server_core.proofs.versions.VersionTable.make_old.Goals as goal

pub unwrap-requires : goal.unwrap-requires
unwrap-requires c = current_in_map c.insert.result c.self.inside.serials.entries c.args.self.now.versions c.args.«module».0 (ap (λ r. r.versions) c.self.view_is) c.insert.ensures.absent c.requires.current

put : (c : goal.After-unwrap) → map versions_of c.insert.new.self.entries ≡ with_made_old c.args.self.now.versions c.args.«module».0
put c =
    let entries = rw c.unwrap.ensures at c.insert.ensures.entries in
    put_versions c.self.inside.serials.entries _ c.args.self.now.versions c.args.«module».0 (record { current = None; old = c.current-was_current.result }) _ (ap (λ r. r.versions) c.self.view_is) (λ i. record { name = c.args.«module».0; current = None; old = c.current-was_current.ensures i }) entries

pub returns : goal.returns
returns c = put c

pub invariant_of-self : goal.invariant_of-self
invariant_of-self c = omega (arith, live_made_old c.args.self.now.versions _ c.args.«module».0 (put c) c.requires.old, ap (λ r. live_count r.versions) c.self.view_is)
