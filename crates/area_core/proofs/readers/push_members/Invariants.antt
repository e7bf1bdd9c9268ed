use Rattle.std.proofs.Common.{◌≡◌, ◌++◌, take}
use Rattle.std.specs.List.{flat_map}
use Rattle.area_core.specs.Readers.{in_member}
use Rattle.area_core.proofs.readers.push_members.Given as goal

-- what the members so far hold is appended
abbrev pub invariant-loop-member : goal.invariant-loop-member
invariant-loop-member l = l.generations ≡ l.fn.generations ++ flat_map in_member (take l.member-index l.fn.members)
