-- The members of a table that has three: two that play, and one that leads.
use Rattle.std.specs.Prelude.{◌≡◌}
use Rattle.atomic_table.specs.Seated.{TableId}
use Rattle.shared_words.specs.declared.opening.Opening.{Opening}
use Rattle.shared_words.specs.declared.seats.Member as tokens
use Rattle.shared_words.specs.declared.seats.Writer as writers
use Rattle.shared_words.specs.Making.{IsMemberBegun}
use Rattle.progress_words.specs.Tokens.{written_by, IsMemberOf, IsWriterOf}
use Rattle.literal_areas.specs.declared.areas.Areas.{Areas}
use Rattle.area_tests.specs.Several.{three_published, AreRetiring}
use Rattle.area_tests.specs.Work.{IsPlaying}

-- they are as they begin
pub record AreThreeBegun (table : TableId) (first second leader : tokens.Member) : Type 0 where
  pub first_begun : IsMemberBegun table 0 first
  pub second_begun : IsMemberBegun table 1 second
  pub leader_begun : IsMemberBegun table 2 leader

-- each is of the table, and has its number
pub record AreThree (table : TableId) (first second leader : tokens.Member) : Type 0 where
  pub first_of : IsMemberOf table first
  pub first_is : first.number ≡ 0
  pub second_of : IsMemberOf table second
  pub second_is : second.number ≡ 1
  pub leader_of : IsMemberOf table leader
  pub leader_is : leader.number ≡ 2

-- the areas are retired from the next generation on, and two members play under the one that uses them
pub record ArePrepared (table : TableId) (opening : Opening) (pools : Areas) (writer : writers.Writer) (first second : tokens.Member) : Type 0 where
  pub token : IsWriterOf table opening writer
  pub retiring : AreRetiring 3 pools (written_by writer)
  pub first_plays : IsPlaying table opening 0 three_published first
  pub first_is : first.number ≡ 0
  pub second_plays : IsPlaying table opening 1 three_published second
  pub second_is : second.number ≡ 1
