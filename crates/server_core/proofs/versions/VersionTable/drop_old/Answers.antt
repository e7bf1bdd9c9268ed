-- The map after the insertion, its versions, and how many of them are live.
use Rattle.std.proofs.Common.{◌≡◌, ap, refl, map, None, arith}
use Rattle.server_core.specs.VersionTable.{versions_of}
use Rattle.server_core.specs.ServerState.{live_count}
use Rattle.server_core.specs.Rooms.{without_old}
use Rattle.server_core.proofs.CurrentCode.{live_dropped, old_in_map, put_versions}
use Rattle.server_core.proofs.versions.VersionTable.drop_old.Goals as goal

pub unwrap-requires : goal.unwrap-requires
unwrap-requires c = old_in_map c.insert.result c.self.inside.serials.entries c.args.self.now.versions c.args.«module».0 (ap (λ r. r.versions) c.self.view_is) c.insert.ensures.absent c.requires

pub overflow_sub-self : goal.overflow_sub-self
overflow_sub-self c = omega (arith, live_dropped c.args.self.now.versions (without_old c.args.self.now.versions c.args.«module».0) c.args.«module».0 refl c.requires, ap (λ r. live_count r.versions) c.self.view_is)

put : (c : goal.After-self-1) → map versions_of c.insert.new.self.entries ≡ without_old c.args.self.now.versions c.args.«module».0
put c =
    let entries = rw c.unwrap.ensures at c.insert.ensures.entries in
    put_versions c.self.inside.serials.entries _ c.args.self.now.versions c.args.«module».0 (record { current = c.current.result; old = None }) _ (ap (λ r. r.versions) c.self.view_is) (λ i. record { name = c.args.«module».0; current = c.current.ensures i; old = None }) entries

pub returns : goal.returns
returns c = put c

pub invariant_of-self : goal.invariant_of-self
invariant_of-self c = omega (arith, live_dropped c.args.self.now.versions _ c.args.«module».0 (put c) c.requires, ap (λ r. live_count r.versions) c.self.view_is)
