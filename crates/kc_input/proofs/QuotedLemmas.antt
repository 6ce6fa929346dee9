-- The text before a closing quote, byte by byte.
use Rattle.std.proofs.{Common.{List, None, Option, Some, [], ap, append-nil, append_assoc, drop, get_or, length, refl, sym, take, ℕ, ◌++◌, ◌+◌, ◌<◌, ◌∙◌, ◌∷◌, ◌≡◌, ◌≢◌}, Math.Seq.take-add, lemmas.{Bool.ne_eqb, List.{drop-drop, drop_more}}}
use Rattle.kc_language.specs.ConfigFile.{until_quote}
use Rattle.kc_input.specs.PartsOfConfigFile.{preceded}

preceded-preceded : (a b : List ℕ) (found : Option (List ℕ)) → preceded a (preceded b found) ≡ preceded (a ++ b) found
preceded-preceded a b None = refl
preceded-preceded a b (Some text) = ap Some (sym (append_assoc a b text))

pub preceded-nothing : (found : Option (List ℕ)) → preceded [] found ≡ found
preceded-nothing None = refl
preceded-nothing (Some text) = refl

-- one byte that ends nothing and takes none away
pub inside_modeless : (rest : List ℕ) → get_or rest 0 0 ≢ 34 → get_or rest 0 0 ≢ 92 → until_quote rest ≡ preceded (take 1 rest) (until_quote (drop 1 rest))
inside_modeless [] quote slash = refl
inside_modeless (b ∷ []) quote slash = rw (ne_eqb b 34 quote) refl
inside_modeless (b ∷ c ∷ bs) quote slash = rw (ne_eqb b 34 quote, ne_eqb b 92 slash) refl

-- a `\` and the byte that it takes away
pub inside_taken : (rest : List ℕ) → get_or rest 0 0 ≡ 92 → until_quote rest ≡ preceded (take 2 rest) (until_quote (drop 2 rest))
inside_taken [] slash = refl
inside_taken (b ∷ []) slash = rw slash refl
inside_taken (b ∷ c ∷ bs) slash = rw slash refl

-- the `"`
pub inside_closed : (b : ℕ) (bs : List ℕ) → b ≡ 34 → until_quote (b ∷ bs) ≡ Some []
inside_closed b [] quote = rw quote refl
inside_closed b (c ∷ bs) quote = rw quote refl

-- some bytes further on
pub inside_further : (body : List ℕ) (at n : ℕ) → until_quote (drop at body) ≡ preceded (take n (drop at body)) (until_quote (drop n (drop at body))) →
    preceded (take at body) (until_quote (drop at body)) ≡ until_quote body → preceded (take (at + n) body) (until_quote (drop (at + n) body)) ≡ until_quote body
inside_further body at n step before =
    let d : drop (at + n) body ≡ drop n (drop at body) = sym (drop-drop n at body) in
    rw (take-add at n body, d) (sym (preceded-preceded (take at body) (take n (drop at body)) (until_quote (drop n (drop at body)))) ∙ ap (preceded (take at body)) (sym step) ∙ before)

pub inside_found : (body : List ℕ) (at : ℕ) → at < length body → get_or body at 0 ≡ 34 →
    preceded (take at body) (until_quote (drop at body)) ≡ until_quote body → Some (take at body) ≡ until_quote body
inside_found body at within quote before =
    let e : until_quote (drop at body) ≡ Some [] = rw (drop_more body at 0 within) (inside_closed (get_or body at 0) (drop (at + 1) body) quote) in
    let w : preceded (take at body) (Some []) ≡ Some (take at body) = ap Some (append-nil (take at body)) in
    sym w ∙ ap (preceded (take at body)) (sym e) ∙ before

at_drop : (body : List ℕ) (at : ℕ) → at < length body → get_or (drop at body) 0 0 ≡ get_or body at 0
at_drop body at within = rw (drop_more body at 0 within) refl

pub inside_over : (body : List ℕ) (at n : ℕ) → n ≡ 1 → at < length body → get_or body at 0 ≢ 34 → get_or body at 0 ≢ 92 →
    preceded (take at body) (until_quote (drop at body)) ≡ until_quote body → preceded (take (at + n) body) (until_quote (drop (at + n) body)) ≡ until_quote body
inside_over body at n is within quote slash before =
    let e = at_drop body at within in
    rw is (inside_further body at 1 (inside_modeless (drop at body) (λ q. quote (sym e ∙ q)) (λ s. slash (sym e ∙ s))) before)

pub inside_over_taken : (body : List ℕ) (at n : ℕ) → n ≡ 2 → at < length body → get_or body at 0 ≡ 92 →
    preceded (take at body) (until_quote (drop at body)) ≡ until_quote body → preceded (take (at + n) body) (until_quote (drop (at + n) body)) ≡ until_quote body
inside_over_taken body at n is within slash before =
    rw is (inside_further body at 2 (inside_taken (drop at body) (at_drop body at within ∙ slash)) before)
