-- The keyword of a word, by its length.
use Rattle.std.proofs.{Common.{Bool, List, ap, false, length, refl, sym, true, ℕ, ◌&&◌, ◌∙◌, ◌≡◌}, lemmas.Map.Entries.lookup-filter-keys}
use Rattle.kc_language.specs.{Expressions.same_name, Statements.{keyword_of, keyword_words}}
use Rattle.kc_entries.specs.PartsOfStatements.{keyword_in, words_of_length}
use Rattle.kc_read.proofs.FileLemmas.{same_name_eq}

-- a table by length has each of its words
same_length : (w k : List ℕ) → same_name w k ≡ true → length k ≡ length w
same_length w k e = ap length (sym (same_name_eq w k e))

pub of_length : (passes : ℕ → Bool) (w : List ℕ) → passes (length w) ≡ true → keyword_in (words_of_length passes) w ≡ keyword_of w
of_length passes w e = lookup-filter-keys (same_name w) (λ k. passes (length k)) true (λ k same. ap passes (same_length w k same) ∙ e) keyword_words

-- what two tests tell that both pass
pub both : (b c : Bool) → (b && c) ≡ true → (b ≡ true) × (c ≡ true)
both true c e = (refl, e)
both false c e = absurd cc
