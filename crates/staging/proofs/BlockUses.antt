-- A block is used in one way: free, live and retired differ, and a live area is one of one serial.
use Rattle.std.proofs.Common.{◌≡◌, ℕ}
use Rattle.literal_areas.specs.declared.blocks.BlockUse.TheVariants.{Free, Live, Retired}

pub live_some : (n : ℕ) → Live n ≡ Free → ⊥
live_some n e = (cc)

pub retired_some : (n since : ℕ) → Retired n since ≡ Free → ⊥
retired_some n since e = (cc)

pub live_serial : (n k : ℕ) → Live n ≡ Live k → n ≡ k
live_serial n k e = (cc)

pub retired_live : (n since k : ℕ) → Retired n since ≡ Live k → ⊥
retired_live n since k e = (cc)

pub live_retired : (k n since : ℕ) → Live k ≡ Retired n since → ⊥
live_retired k n since e = (cc)

pub free_retired : (n since : ℕ) → Free ≡ Retired n since → ⊥
free_retired n since e = (cc)
