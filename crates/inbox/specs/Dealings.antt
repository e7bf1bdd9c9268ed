-- The rule of an inbox, which holds between any two steps: what was posted is what was taken, and then what the inbox holds.
use Rattle.std.specs.Prelude.{◌≡◌, ℕ, Bool, true, false, List, [], ◌++◌}
use mathlib.Core.Option.{some}
use mathlib.Core.List.{IsPrefix}
use lib.ListN.{get_elem?}
use Rattle.inbox.specs.declared.rule.Dealing.{Dealing}

module _ {T : Type 0} where
  -- what an end may do (post, take), what it posted, what it took, and of what it was told that it was posted
  abbrev pub dealing : Bool → Bool → List T → List T → List T → Dealing T
  dealing posts takes put taken told = record { posts = posts; takes = takes; put = put; taken = taken; told = told }

  -- an end that may do nothing and knows nothing
  abbrev pub spent : Dealing T
  spent = dealing false false [] [] []

  -- the end with this place is the one that may post, and knows all that was posted, if it may post; likewise for taking
  pub record FitsEnd (poster taker : ℕ) (put taken : List T) (place : ℕ) (d : Dealing T) : Type 0 where
    pub posts : d.posts ≡ true → (place ≡ poster) × (d.put ≡ put)
    pub takes : d.takes ≡ true → (place ≡ taker) × (d.taken ≡ taken)
    pub told : IsPrefix d.told put

  -- each item was posted once, and was taken once or is still there
  pub record IsFair (items : List T) (ends : List (Dealing T)) : Type 0 where
    pub poster : ℕ
    pub taker : ℕ
    pub put : List T
    pub taken : List T
    pub balance : put ≡ taken ++ items
    pub fit : (place : ℕ) (d : Dealing T) → get_elem? ends place ≡ some d → FitsEnd poster taker put taken place d
