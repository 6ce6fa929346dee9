-- The first word of a line, one byte on.
use Rattle.std.proofs.Common.{◌≡◌, ℕ, ◌+◌, ◌<◌, length, take, drop, get_or, true, false, List, [], ◌∷◌, ◌++◌, sym, ap, ◌∙◌, append_assoc, append-nil}
use Rattle.std.specs.Prelude.{if◌then◌else◌}
use Rattle.std.proofs.lemmas.List.{drop_more, take_more}
use Rattle.kc_language.specs.Tokens.{is_blank}
use Rattle.kc_hints.specs.Forms.{word_of}

module _ (text : List ℕ) (i : ℕ) (within : i < length text) where
  word_at : take i text ++ word_of (drop i text) ≡ take i text ++ (if is_blank (get_or text i 0) then [] else get_or text i 0 ∷ word_of (drop (i + 1) text))
  word_at = ap (λ l. take i text ++ word_of l) (drop_more text i 0 within)

  -- a blank ends it
  pub word_here : is_blank (get_or text i 0) ≡ true → take i text ++ word_of (drop i text) ≡ take i text
  word_here is =
      word_at ∙ ap (λ b. take i text ++ (if b then [] else get_or text i 0 ∷ word_of (drop (i + 1) text))) is ∙ append-nil (take i text)

  -- another byte is part of it
  pub word_more : is_blank (get_or text i 0) ≡ false → take i text ++ word_of (drop i text) ≡ take (i + 1) text ++ word_of (drop (i + 1) text)
  word_more is =
      word_at ∙ ap (λ b. take i text ++ (if b then [] else get_or text i 0 ∷ word_of (drop (i + 1) text))) is
      ∙ sym (append_assoc (take i text) (get_or text i 0 ∷ []) (word_of (drop (i + 1) text)))
      ∙ ap (λ l. l ++ word_of (drop (i + 1) text)) (sym (take_more text i 0 within))
