-- A search does not pass all buckets, as there is room.
use Rattle.std.proofs.Common.{◌≡◌, ℕ, None, subst, arith}
use Rattle.area_core.specs.Terms.{looked}
use Rattle.term_table.specs.Built.{words_of}
use Rattle.term_table.proofs.Searching.{begun}
use Rattle.term_table.proofs.Counting.{passed_all}
use Rattle.term_table.proofs.buckets.Buckets.free_for.Goals as goal

pub loop-tried-init : goal.loop-tried-init
loop-tried-init c = begun (words_of c.args.self.now) c.args.key

pub returns : goal.returns
returns c =
    let most = c.loop-tried.auto.tried-end in
    let over = c.loop-tried-test.false in
    let end : c.loop-tried.tried ≡ 512 = omega (arith, most, over) in
    let all = passed_all (words_of c.args.self.now) c.args.key (subst (λ (n : ℕ). looked (words_of c.args.self.now) c.args.key n ≡ None) end c.loop-tried.invariant) in
    let room = c.requires.room in
    absurd (omega (arith, all, room))
