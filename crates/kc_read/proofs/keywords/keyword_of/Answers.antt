use Rattle.std.proofs.{Common.{ap, length, nat_le, refl, sym, ℕ, ◌==◌, ◌∙◌, ◌≡◌, ◌≤◌}, lemmas.Bool.le-leb}
use native.Mathlib.Omega.{arith}
use Rattle.kc_read.proofs.KeywordLemmas.{of_length}
use Rattle.kc_read.proofs.keywords.keyword_of.Goals as goal

-- src/keywords.rt:150:1
pub returns-in-5 : goal.returns-in-5
returns-in-5 c = c.word_of_five.ensures ∙ of_length (λ n. n == 5) c.args.word.now (ap (λ n. n == 5) c.in-5.is)

-- src/keywords.rt:150:1
pub returns-in-6 : goal.returns-in-6
returns-in-6 c = c.word_of_six.ensures ∙ of_length (λ n. n == 6) c.args.word.now (ap (λ n. n == 6) c.in-6.is)

-- src/keywords.rt:150:1
pub returns-in-7 : goal.returns-in-7
returns-in-7 c = c.word_of_seven.ensures ∙ of_length (λ n. n == 7) c.args.word.now (ap (λ n. n == 7) c.in-7.is)

-- src/keywords.rt:150:1
pub returns-in-8 : goal.returns-in-8
returns-in-8 c = c.word_of_eight.ensures ∙ of_length (λ n. n == 8) c.args.word.now (ap (λ n. n == 8) c.in-8.is)

-- src/keywords.rt:150:1
pub returns-in-0-to-4 : goal.returns-in-0-to-4
returns-in-0-to-4 c = c.short_word.ensures ∙ of_length (λ n. nat_le n 4) c.args.word.now (le-leb (length c.args.word.now) 4 (omega arith))
