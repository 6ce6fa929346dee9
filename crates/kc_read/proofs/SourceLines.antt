-- The `source` lines along a file: the first of them, and so the list of their names, is one.
use Rattle.std.proofs.{Common.{Err, List, None, Ok, Some, [], ap, arith, codes, drop, false, length, refl, subst, sym, true, ℕ, ◌∙◌, ◌∷◌, ◌≡◌}, lemmas.Bool.both_ways}
use Rattle.kc_language.specs.{Expansion.{IsSource, NextLine, Passes, SourceNames, here, next, none, past}, Lines.{IsTooLong, UnreadLines}, Statements.{Cause, ReadsSource, SourceLine, begins_with}, Tokens.Lexeme, declared.tokens.TextFault.TextFault}
use Rattle.kc_text.proofs.Joins.{taken_is_short, takes_less}
use Rattle.kc_entries.specs.PartsOfExpansion.{IsOther}
use Rattle.kc_read.proofs.{OneExpansion.{one_name, one_next, source_line}, OneLine.one_source}

-- ---- Lines that no name follows

stopped : (l m n : UnreadLines) (name : List ℕ) → ((k : UnreadLines) → IsOther l k → ⊥) → ((k : UnreadLines) (other : List ℕ) → IsSource l k other → ⊥) → Passes l m → IsSource m n name → ⊥
stopped l m n name no_pass no_name (here k) s = no_name n name s
stopped l m n name no_pass no_name (past k i j o p) s = no_pass i o

-- nothing passes the next line, and it names no file
stops : (l : UnreadLines) → ((k : UnreadLines) → IsOther l k → ⊥) → ((k : UnreadLines) (name : List ℕ) → IsSource l k name → ⊥) → SourceNames l []
stops l no_pass no_name = none l (λ m n name p s. stopped l m n name no_pass no_name p s)

no_line : (l : UnreadLines) → ((m : UnreadLines) (ts : List Lexeme) → NextLine false l m ts None → ⊥) → SourceNames l []
no_line l h = stops l (λ k o. h k o.0 o.1) (λ k name s. h k s.0 s.1)

pub at_end : (l : UnreadLines) → l.lines ≡ [] → SourceNames l []
at_end l e = no_line l (λ m ts n. omega (arith, takes_less l n.middle n.text n.taken, ap length e))

pub too_long : (l : UnreadLines) → IsTooLong l → SourceNames l []
too_long l long = no_line l (λ m ts n. taken_is_short l n.middle n.text n.taken long)

pub no_tokens : (l m : UnreadLines) (ts : List Lexeme) (why : TextFault) → NextLine false l m ts (Some why) → SourceNames l []
no_tokens l m ts why line = no_line l (λ n us other. let e : Some why ≡ None = (one_next l m n ts us (Some why) None line other).2 in absurd cc)

-- a `source` line whose rest is refused is passed by nothing, and names no file
no_other : (l m n : UnreadLines) (ts : List Lexeme) → NextLine false l m ts None → begins_with (codes "source") ts ≡ true → IsOther l n → ⊥
no_other l m n ts line b o =
    let (left, tokens, out) = one_next l n m o.0 ts None None o.1 line in
    both_ways (begins_with (codes "source") ts) (subst (λ us. begins_with (codes "source") us ≡ false) tokens o.2) b

no_source : (l m n : UnreadLines) (name : List ℕ) (ts : List Lexeme) (c : Cause) → NextLine false l m ts None → ReadsSource (drop 1 ts) (Err c) → IsSource l n name → ⊥
no_source l m n name ts c line reads s =
    let (left, tokens, out) = one_next l m n ts s.0 None None line s.1 in
    let bad : ReadsSource (drop 1 s.0) (Err c) = subst (λ us. ReadsSource (drop 1 us) (Err c)) tokens reads in
    let e : Err c ≡ Ok (source_line name) = one_source (drop 1 s.0) (Err c) (Ok (SourceLine name)) bad s.3 in
    absurd cc

pub bad_source : (l m : UnreadLines) (ts : List Lexeme) (c : Cause) → NextLine false l m ts None → begins_with (codes "source") ts ≡ true →
    ReadsSource (drop 1 ts) (Err c) → SourceNames l []
bad_source l m ts c line b reads = stops l (λ k o. no_other l m k ts line b o) (λ k name s. no_source l m k name ts c line reads s)

-- ---- The next line is a `source` line, or it is none

other_or_source : (l m n : UnreadLines) (name : List ℕ) → IsOther l m → IsSource l n name → ⊥
other_or_source l m n name o s = no_other l n m s.0 s.1 s.2 o

same_other : (l m n : UnreadLines) → IsOther l m → IsOther l n → m ≡ n
same_other l m n a b = (one_next l m n a.0 b.0 None None a.1 b.1).0

same_source : (l m n : UnreadLines) (name other : List ℕ) → IsSource l m name → IsSource l n other → (m ≡ n) × (name ≡ other)
same_source l m n name other a b =
    let (left, tokens, out) = one_next l m n a.0 b.0 None None a.1 b.1 in
    let reads : ReadsSource (drop 1 b.0) (Ok (SourceLine name)) = subst (λ ts. ReadsSource (drop 1 ts) (Ok (SourceLine name))) tokens a.3 in
    let e : Ok (source_line name) ≡ Ok (source_line other) = one_source (drop 1 b.0) (Ok (SourceLine name)) (Ok (SourceLine other)) reads b.3 in
    let f : source_line name ≡ source_line other = cc in
    (left, one_name name other f)

-- the way to a `source` line goes on after a line that is none
passes_after : (l m n k : UnreadLines) (name : List ℕ) → IsOther l m → Passes l n → IsSource n k name → Passes m n
passes_after l m n k name o (here i) s = absurd (other_or_source l m k name o s)
passes_after l m n k name o (past i j h other p) s = subst (λ x. Passes x n) (same_other l j m other o) p

-- the first `source` line is one
same_first : (l m n i j : UnreadLines) (name other : List ℕ) → Passes l m → IsSource m n name → Passes l i → IsSource i j other → (n ≡ j) × (name ≡ other)
same_first l m n i j name other (here k) s (here h) t = same_source l n j name other s t
same_first l m n i j name other (here k) s (past h g f o p) t = absurd (other_or_source l g n name o s)
same_first l m n i j name other (past h g f o p) s q t = same_first g m n i j name other p s (passes_after l g i j other o q t) t

-- ---- The names from a line on, and those from the next one on

pub before_other : (l m : UnreadLines) (names : List (List ℕ)) → IsOther l m → SourceNames m names → SourceNames l names
before_other l m names o (none k h) = none l (λ i j name p s. h i j name (passes_after l m i j name o p s) s)
before_other l m names o (next k i j name more p s d) = next l i j name more (past l m i o p) s d

pub before_source : (l m : UnreadLines) (name : List ℕ) (names : List (List ℕ)) → IsSource l m name → SourceNames m names → SourceNames l (name ∷ names)
before_source l m name names s d = next l l m name names (here l) s d

pub after_other : (l m : UnreadLines) (names : List (List ℕ)) → IsOther l m → SourceNames l names → SourceNames m names
after_other l m names o (none k h) = none m (λ i j name p s. h i j name (past l m i o p) s)
after_other l m names o (next k i j name more p s d) = next m i j name more (passes_after l m i j name o p s) s d

-- what follows the first `source` line's name
names_after : (l m n : UnreadLines) (name : List ℕ) (names : List (List ℕ)) → Passes l m → IsSource m n name → SourceNames l names → (more : List (List ℕ)) × (names ≡ name ∷ more) × SourceNames n more
names_after l m n name names p s (none k h) = absurd (h m n name p s)
names_after l m n name names p s (next k i j other more q t d) =
    let (left, same) = same_first l i j m n other name q t p s in
    (more, ap (λ x. x ∷ more) same, subst (λ x. SourceNames x more) left d)

pub after_source : (l m : UnreadLines) (name : List ℕ) (names : List (List ℕ)) → IsSource l m name → SourceNames l names → (more : List (List ℕ)) × (names ≡ name ∷ more) × SourceNames m more
after_source l m name names s d = names_after l l m name names (here l) s d

pub one_list : (l : UnreadLines) (names others : List (List ℕ)) → SourceNames l names → SourceNames l others → names ≡ others
one_list l names others (none k h) (none i g) = refl
one_list l names others (none k h) (next i m n name more p s d) = absurd (h m n name p s)
one_list l names others (next k m n name more p s d) e =
    let (rest, is, f) = names_after l m n name others p s e in
    ap (λ x. name ∷ x) (one_list n more rest d f) ∙ sym is
