-- Where the words of breakpoints and entry words stand, and that they are words apart.
use Rattle.std.proofs.Common.{◌≡◌, ℕ, ◌+◌, ◌-◌, ◌*◌, ◌%◌, ◌<◌, ◌≤◌, true, sym, ap, ◌∙◌, arith}
use Rattle.area_core.specs.declared.map.WordKind.TheVariants.{InBlock}
use Rattle.area_core.specs.declared.table.KeptArea.{KeptArea}
use Rattle.area_core.specs.Map.{kind_at, block_place, breakpoint_at, breakpoint_place, image_entry_at}
use Rattle.area_core.specs.Generations.{has_function}
use Rattle.area_core.specs.Blocks.{FitsBlock, IsForInstances}
use Rattle.area_core.proofs.Places.{kind_block}
use Rattle.area_core.proofs.Frames.{big_room, breakpoint_fits, function_fits}
use Rattle.area_core.proofs.BlockStores.{block_within, same_block}

-- the index that is not this one
pub behind_fits : (bp : ℕ) → (bp + 1) % 2 < 2
behind_fits bp = omega (arith)

pub behind_differs : (bp : ℕ) → bp ≡ (bp + 1) % 2 → ⊥
behind_differs bp same = omega (arith, same)

-- the one behind that is this one again
pub behind_back : (bp : ℕ) → bp < 2 → ((bp + 1) % 2 + 1) % 2 ≡ bp
behind_back bp fits = omega (arith, fits)

-- ---- decisions

-- a decision is a word of its index
pub decision_kind : (bp block function : ℕ) → bp < 2 → IsForInstances block → function < 16 → kind_at (breakpoint_place bp block function) ≡ InBlock (3 + bp) (breakpoint_at block function)
decision_kind bp block function fits for few =
    let within = breakpoint_fits block function for few in
    kind_block (3 + bp) (breakpoint_at block function) (omega (arith, fits)) (big_room (3 + bp) (breakpoint_at block function) (omega (arith, fits)) within)

pub decision_within : (bp block function : ℕ) → bp < 2 → IsForInstances block → function < 16 → breakpoint_place bp block function < 83413
decision_within bp block function fits for few = block_within (breakpoint_place bp block function) (3 + bp) (breakpoint_at block function) (decision_kind bp block function fits for few)

at_apart : (a f b g : ℕ) → 9 ≤ a → f < 16 → 9 ≤ b → g < 16 → (a - 9) * 16 + f ≡ (b - 9) * 16 + g → (a ≡ b) × (f ≡ g)
at_apart a f b g low few low_too few_too same = (omega (arith, low, few, low_too, few_too, same), omega (arith, low, few, low_too, few_too, same))

-- two decisions in one place are one
pub decisions_apart : (bp block function other also more : ℕ) → bp < 2 → IsForInstances block → function < 16 → other < 2 → IsForInstances also → more < 16 → breakpoint_place bp block function ≡ breakpoint_place other also more → (bp ≡ other) × (block ≡ also) × (function ≡ more)
decisions_apart bp block function other also more fits for few fits_too for_too few_too same =
    let both = same_block (3 + bp) (breakpoint_at block function) (3 + other) (breakpoint_at also more) (sym (decision_kind bp block function fits for few) ∙ ap kind_at same ∙ decision_kind other also more fits_too for_too few_too) in
    let index : 3 + bp ≡ 3 + other = both.0 in
    let inner = at_apart block function also more for.first few for_too.first few_too both.1 in
    (omega (arith, index), inner.0, inner.1)

-- ---- entry words

-- an entry word is one of the block of its instance
pub entry_kind : (block function : ℕ) → block < 64 → function < 16 → kind_at (block_place block (image_entry_at function)) ≡ InBlock block (image_entry_at function)
entry_kind block function big few = kind_block block (image_entry_at function) (omega (arith, big)) (big_room block (image_entry_at function) big (omega (arith, few)))

pub entry_within : (block function : ℕ) → block < 64 → function < 16 → block_place block (image_entry_at function) < 83413
entry_within block function big few = block_within (block_place block (image_entry_at function)) block (image_entry_at function) (entry_kind block function big few)

entry_back : (f g : ℕ) → f * 4 + 6 ≡ g * 4 + 6 → f ≡ g
entry_back f g same = omega (arith, same)

-- two entry words in one place are one
pub entries_apart : (block function other more : ℕ) → block < 64 → function < 16 → other < 64 → more < 16 → block_place block (image_entry_at function) ≡ block_place other (image_entry_at more) → (block ≡ other) × (function ≡ more)
entries_apart block function other more big few big_too few_too same =
    let both = same_block block (image_entry_at function) other (image_entry_at more) (sym (entry_kind block function big few) ∙ ap kind_at same ∙ entry_kind other more big_too few_too) in
    (both.0, entry_back function more both.1)

-- no entry word is a decision
pub entry_off : (block function bp other more : ℕ) → 9 ≤ block → block < 64 → function < 16 → bp < 2 → IsForInstances other → more < 16 → block_place block (image_entry_at function) ≡ breakpoint_place bp other more → ⊥
entry_off block function bp other more low big few fits for few_too same =
    let both = same_block block (image_entry_at function) (3 + bp) (breakpoint_at other more) (sym (entry_kind block function big few) ∙ ap kind_at same ∙ decision_kind bp other more fits for few_too) in
    let index : block ≡ 3 + bp = both.0 in
    omega (arith, low, fits, index)

-- the instance of a function stands in a block for instances
pub area_for : (k : KeptArea) (function : ℕ) → FitsBlock k → has_function k function ≡ true → IsForInstances k.area.block × (function < 16)
area_for k function fits has = let both = function_fits k function fits has in (record { first = fits.first; last = both.0 }, both.1)
