-- The parts of a text, one more at a time.
use Rattle.std.proofs.Common.{◌≡◌, ◌<◌, arith, List, [], ◌∷◌, ◌++◌, Option, Some, length, refl, ap, sym, ◌∙◌, append_assoc, append-nil}
use Rattle.std.specs.List.{flat_map, last_or}
use Rattle.std.proofs.lemmas.List.Concat.{flat_map-append}
use Rattle.clap.specs.Words.{Text}
use Rattle.kc_words.specs.CommandLine.{filled_part, filled_parts}

pub last-push : {A : Type 0} (o : Option A) (xs : List A) (x : A) → last_or o (xs ++ x ∷ []) ≡ Some x
last-push o [] x = refl
last-push o (y ∷ xs) x = last-push (Some y) xs x

pub filled-push : (config : Text) (parts : List Text) (part : Text) → length parts ≡ 0 → filled_parts config (parts ++ part ∷ []) ≡ part
filled-push config [] part h = append-nil part
filled-push config (x ∷ parts) part h = absurd (omega arith)

pub filled-more : (config : Text) (parts : List Text) (part : Text) → 0 < length parts → filled_parts config (parts ++ part ∷ []) ≡ filled_parts config parts ++ filled_part config part
filled-more config [] part h = absurd (omega arith)
filled-more config (x ∷ parts) part h =
    ap (λ t. x ++ t) (flat_map-append (filled_part config) parts (part ∷ []) ∙ ap (λ t. flat_map (filled_part config) parts ++ t) (append-nil (filled_part config part)))
    ∙ sym (append_assoc x (flat_map (filled_part config) parts) (filled_part config part))
