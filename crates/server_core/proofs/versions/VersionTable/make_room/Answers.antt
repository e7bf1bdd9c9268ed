-- The entries are moved in their order, and each takes one place.
use Rattle.std.proofs.Common.{◌≡◌, ap, length, map, sym, ◌∙◌, arith}
use Rattle.std.proofs.lemmas.List.{length-map}
use Rattle.server_core.specs.VersionTable.{versions_of}
use Rattle.server_core.specs.ServerState.{live_count}
use Rattle.server_core.proofs.MovedMaps.{moved}
use Rattle.server_core.proofs.versions.VersionTable.make_room.Goals as goal

pub unwrap-requires : goal.unwrap-requires
unwrap-requires c =
    c.append.ensures.succeeds (omega (arith, ap (λ r. length r.versions) c.self.view_is, length-map c.self.inside.serials.entries versions_of, c.requires.room))

same : (c : goal.After-drop-self-inside-4) → c.append.new.self.entries ≡ c.self.inside.serials.entries
same c = (rw c.unwrap.ensures at c.append.ensures.entries) ∙ moved c.args.map.entries c.self.inside.serials.entries c.requires.empty c.len.ensures.unique

pub returns-clause-same : goal.returns-clause-same
returns-clause-same c = ap (map versions_of) (same c) ∙ ap (λ r. r.versions) c.self.view_is

pub returns-clause-room : goal.returns-clause-room
returns-clause-room c =
    omega (arith, c.append.ensures.room.0, ap (λ r. length r.versions) c.self.view_is, length-map c.self.inside.serials.entries versions_of, c.requires.room)

pub invariant_of-self : goal.invariant_of-self
invariant_of-self c = c.self.invariant ∙ ap (λ es. live_count (map versions_of es)) (sym (same c))
