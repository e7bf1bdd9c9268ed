-- Where the words of one line are more than are left, those of all lines are too many.
use Rattle.mod_text.proofs.Common.{◌≡◌, ℕ, ◌+◌, ◌<◌, ◌≤◌, List, length, take, get_or, nat_le, false}
use Rattle.mod_text.proofs.Common.{sum_by, subst, arith, nat_tests, length-map, take-map, get_or-map}
use Rattle.mod_text.proofs.Common.{sum_by_more_le, Bor}
use Rattle.mod_text.proofs.Forms.{form_of, forms_of, line_words, lines_words}
use Rattle.mod_text.proofs.Settles.{kept_at}
use Rattle.mod_text.proofs.limits.is_short.Goals as goal

-- the words of the first lines and of the next one are words of all
words_of_front : (lines : List (Bor (List ℕ))) (i : ℕ) (d : Bor (List ℕ)) → i < length lines → sum_by line_words (forms_of (take i lines)) + line_words (form_of (get_or lines i d)) ≤ sum_by line_words (forms_of lines)
words_of_front lines i d within =
    let among : i < length (forms_of lines) = omega (arith, length-map lines form_of) in
    subst (λ (n : ℕ). n ≤ sum_by line_words (forms_of lines))
    (λ j. sum_by line_words (take-map form_of i lines j) + line_words (get_or-map form_of lines i d (form_of d) within j))
    (sum_by_more_le line_words (forms_of lines) i (form_of d) among)

too_long : (lines : List (Bor (List ℕ))) (i : ℕ) (d : Bor (List ℕ)) (left len : ℕ) → left + sum_by line_words (forms_of (take i lines)) ≡ 1020 → i < length lines → len ≡ line_words (form_of (get_or lines i d)) → left < len → false ≡ nat_le (lines_words (forms_of lines)) 1024
too_long lines i d left len so_far within is over =
    let so_many = words_of_front lines i d within in
    grind (arith, nat_tests)

pub returns-then-len-left : goal.returns-then-len-left
returns-then-len-left c = too_long c.args.lines.now c.loop-line.line-index _ c.loop-line.left c.line_words-len.result c.loop-line.invariant c.loop-line-test.true c.line_words-len.ensures c.if-len-left.true

pub line_words-len-requires : goal.line_words-len-requires
line_words-len-requires c = kept_at c.args.lines.now c.loop-line.line-index _ c.loop-line-test.true c.requires
