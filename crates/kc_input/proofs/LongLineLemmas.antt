-- A line of more than 65,535 bytes, whatever follows.
use Rattle.std.proofs.{Common.{Bool, List, [], ap, append_assoc, arith, false, length, length-append, refl, suc, true, ℕ, ◌++◌, ◌<◌, ◌==◌, ◌∙◌, ◌∷◌, ◌≡◌, ◌≤◌}, lemmas.{Bool.{Decides.nat_tests, ne_eqb}, List.Splits.slice_split-cons_no}}
use Rattle.std.specs.{List.{onto_first, slice_split}, Prelude.nat_le}
use Rattle.kc_language.specs.{ConfigFile.{Line, Notation, UserInput, is_within, lines_from, lines_in_stream}, Lines.is_line_feed, Symbols.TreeFacts}
use Rattle.kc_input.specs.{Feeding.{IsWithinLine, MeetsLongLine, StreamPosition}, PartsOfConfigFile.line}
use Rattle.kc_input.proofs.{LineLemmas.{HasNoLf, split_form}, ReadingLemmas.reading_long}

-- bytes without an LF stand before the first part
split_behind : (bytes rest part : List ℕ) (parts : List (List ℕ)) → HasNoLf bytes → slice_split is_line_feed rest ≡ part ∷ parts → slice_split is_line_feed (bytes ++ rest) ≡ (bytes ++ part) ∷ parts
split_behind [] rest part parts one is = is
split_behind (b ∷ bytes) rest part parts one is =
    slice_split-cons_no is_line_feed b (bytes ++ rest) (one 0 b (omega arith)) ∙ ap (onto_first b) (split_behind bytes rest part parts (λ k d lt. one (suc k) d (omega (arith, lt))) is)

-- the first line of these parts is the first part
first_line : (stream : List ℕ) (n : ℕ) (part : List ℕ) (parts : List (List ℕ)) → 0 < length part → (ended : Bool) × (lines : List Line)
    × (lines_in_stream stream n (part ∷ parts) ≡ line stream n part ended ∷ lines)
first_line stream n part [] some = let e : (length part == 0) ≡ false = ne_eqb (length part) 0 (omega (arith, some)) in (false, [], rw e refl)
first_line stream n part (next ∷ parts) some = (true, lines_in_stream stream _ (next ∷ parts), refl)

-- bytes without an LF, and then another byte than an LF, begin the first line
begins_line : (stream : List ℕ) (n : ℕ) (bytes : List ℕ) (b : ℕ) (rest : List ℕ) → HasNoLf bytes → is_line_feed b ≡ false →
    (part : List ℕ) × (ended : Bool) × (lines : List Line) × (lines_from stream n (bytes ++ b ∷ rest) ≡ line stream n (bytes ++ b ∷ part) ended ∷ lines)
unfolding lines_from
begins_line stream n bytes b rest one other =
    let (part, parts, is) = split_form rest in
    let whole : slice_split is_line_feed (bytes ++ b ∷ rest) ≡ (bytes ++ b ∷ part) ∷ parts =
    split_behind bytes (b ∷ rest) (b ∷ part) parts one (slice_split-cons_no is_line_feed b rest other ∙ ap (onto_first b) is) in
    let (ended, lines, first) = first_line stream n (bytes ++ b ∷ part) parts (omega (arith, length-append bytes (b ∷ part))) in
    (part, ended, lines, ap (lines_in_stream stream n) whole ∙ first)

-- the 65,536th byte of a line stops the reading there
pub MeetsLongLine-long : (tree : TreeFacts) (prefix : Notation) (name : List ℕ) (b : ℕ) (position : StreamPosition) (places : UserInput) → IsWithinLine position →
    is_line_feed b ≡ false → 65535 ≤ length position.pending → MeetsLongLine tree prefix name (b ∷ []) position places
MeetsLongLine-long tree prefix name b position places opened other long rest more =
    let (part, ended, lines, is) = begins_line name position.number position.pending b rest opened.one_line other in
    let l = line name position.number (position.pending ++ b ∷ part) ended in
    let count = length-append position.pending (b ∷ part) in
    let too_long : is_within l ≡ false = (let e : nat_le (length (position.pending ++ b ∷ part)) 65535 ≡ false = grind (arith, nat_tests) in e) in
    rw is (reading_long tree prefix places l (lines ++ more) too_long)

-- whatever else follows in the piece
pub MeetsLongLine-longer : (tree : TreeFacts) (prefix : Notation) (name a b : List ℕ) (position : StreamPosition) (places : UserInput) → MeetsLongLine tree prefix name a position places →
    MeetsLongLine tree prefix name (a ++ b) position places
MeetsLongLine-longer tree prefix name a b position places stops rest more = rw append_assoc (stops (b ++ rest) more)
