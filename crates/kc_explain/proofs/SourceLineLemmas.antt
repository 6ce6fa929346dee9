-- Lines of a file.
use Rattle.std.proofs.Common.{◌≡◌, ℕ, Bool, Bor, cond, Some, zero, suc, subst, ◌+◌, ◌-◌, ◌<◌, ◌≤◌, List, [], ◌∷◌, ◌++◌, true, false, length, take, drop, map, get_or, refl, ap, sym, ◌∙◌, arith, append_assoc}
use Rattle.std.specs.Prelude.{IfSome, slice_get}
use Rattle.std.specs.Map.{lookup}
use Rattle.std.specs.Option.{option_copied}
use Rattle.std.specs.declared.{alloc.Global.Global, vec.Vec.Vec}
use Rattle.indexmap.specs.IndexMap.{insert_entry}
use Rattle.std.specs.List.{All, flat_map, slice_split, suffix_len}
use Rattle.std.proofs.lemmas.Bool.{false_from_ne_true}
use Rattle.std.proofs.lemmas.List.{append-nil, drop_all, get_or-map, length-map, map-append, take-map, take_rest}
use Rattle.std.proofs.lemmas.List.Elements.{All-cons, All-from_get_or, All-head, All-nil, All-same, All-tail}
use Rattle.std.proofs.lemmas.List.Sums.{position_or_len_is, suffix_len-take_no, suffix_len-take_yes}
use Rattle.std.proofs.lemmas.List.Splits.{slice_split_first, slice_split_none}
use Rattle.bstr.specs.Find.{NoneBefore, Nowhere, Passes, is_byte}
use Rattle.kc_language.specs.Expansion.{Files}
use Rattle.kc_language.specs.Expressions.{same_name}
use Rattle.kc_outcome.specs.Explanations.{without_text}
use Rattle.kc_language.specs.Lines.{is_line_feed}
use Rattle.kc_read.proofs.FileLemmas.{same_name_eq}
use Rattle.kc_explain.specs.SourceLines.{StandAtLines, comment, lines_from_each, lines_left, lines_of, with_text}

-- a line feed ends the first line; or none is there
pub line_ended : (rest : List ℕ) (n : ℕ) → NoneBefore (Passes (is_byte 10) rest) 0 (length rest) n → Passes (is_byte 10) rest n →
    slice_split is_line_feed rest ≡ take n rest ∷ slice_split is_line_feed (take (length rest - (n + 1)) (drop (n + 1) rest))
line_ended rest n none at =
    let pos = position_or_len_is is_line_feed rest n 0 (omega (arith, none.high)) (λ k lt. false_from_ne_true _ (none.before k (omega arith) lt)) (λ _. at) in
    let split = slice_split_first is_line_feed rest 0 (rw pos none.high) in
    rw (split, pos, take_rest) refl

pub line_open : (rest : List ℕ) → Nowhere (Passes (is_byte 10) rest) 0 (length rest) → slice_split is_line_feed rest ≡ rest ∷ []
line_open rest none =
    slice_split_none is_line_feed rest (All-from_get_or (λ x. is_line_feed x ≡ false) rest 0 (λ k lt. false_from_ne_true _ (none k (omega arith) lt)))

-- ---- the rests of a file from each line on
-- these rests begin at the first lines; these lines are left
abbrev pub StandBefore : List (List ℕ) → List (Bor (List ℕ)) → List (List ℕ) → Type 0
StandBefore lines rests left = map (λ r. slice_split is_line_feed r.now) rests ++ lines_from_each left ≡ lines_from_each lines

pub rests-begin : (lines : List (List ℕ)) (rests : List (Bor (List ℕ))) → rests ≡ [] → StandBefore lines rests lines
rests-begin lines rests none = ap (λ (rs : List (Bor (List ℕ))). map (λ r. slice_split is_line_feed r.now) rs ++ lines_from_each lines) none

pub rests-go : (lines : List (List ℕ)) (rests : List (Bor (List ℕ))) (rest : Bor (List ℕ)) (left : List (List ℕ)) (line : List ℕ) (more : List (List ℕ)) →
    slice_split is_line_feed rest.now ≡ line ∷ more → left ≡ line ∷ more → StandBefore lines rests left → StandBefore lines (rests ++ rest ∷ []) more
rests-go lines rests rest left line more there is before =
    let lines_at : Bor (List ℕ) → List (List ℕ) = λ r. slice_split is_line_feed r.now in
    let one : lines_at rest ∷ lines_from_each more ≡ lines_from_each left = ap (λ ls. ls ∷ lines_from_each more) there ∙ sym (ap lines_from_each is) in
    ap (λ ls. ls ++ lines_from_each more) (map-append lines_at rests (rest ∷ []))
    ∙ append_assoc (map lines_at rests) (lines_at rest ∷ []) (lines_from_each more)
    ∙ ap (λ ls. map lines_at rests ++ ls) one
    ∙ before

pub rests-less : (left : List (List ℕ)) (line : List ℕ) (more : List (List ℕ)) → left ≡ line ∷ more → length more < length left
rests-less left line more is =
    let e : length left ≡ suc (length more) = ap length is in
    omega (arith, e)

pub rests-end : (lines : List (List ℕ)) (rests : List (Bor (List ℕ))) (left : List (List ℕ)) → left ≡ [] → StandBefore lines rests left → StandAtLines lines rests
rests-end lines rests left none all =
    let lines_at : Bor (List ℕ) → List (List ℕ) = λ r. slice_split is_line_feed r.now in
    sym (append-nil (map lines_at rests)) ∙ ap (λ ls. map lines_at rests ++ lines_from_each ls) (sym none) ∙ all

-- the rest behind some lines
pub rest-behind : (lines : List (List ℕ)) (rests : List (Bor (List ℕ))) (n : ℕ) → StandAtLines lines rests → lines_left (option_copied (slice_get rests n)) ≡ drop n lines
rest-behind [] [] n is = sym (drop_all n [] (omega arith))
rest-behind (line ∷ lines) [] n is = absurd (let clash : [] ≡ (line ∷ lines) ∷ lines_from_each lines = is in cc)
rest-behind [] (r ∷ rests) n is = absurd (let clash : slice_split is_line_feed r.now ∷ map (λ (x : Bor (List ℕ)). slice_split is_line_feed x.now) rests ≡ [] = is in cc)
rest-behind (line ∷ lines) (r ∷ rests) zero is = ap (λ ls. get_or ls 0 []) is
rest-behind (line ∷ lines) (r ∷ rests) (suc n) is = rest-behind lines rests n (ap (drop 1) is)

-- what holds of each entry holds of one that is found, and of all with one more
module _ {K X : Type 0} (P : K → X → Type 0) where
  abbrev Each : List (K × X) → Type 0
  Each kept = All (λ (e : K × X). P e.0 e.1) kept

  pub each-found : (test : K → Bool) (Q : X → Type 0) → ((k : K) (x : X) → test k ≡ true → P k x → Q x) → (kept : List (K × X)) → Each kept → IfSome (lookup test kept) Q
  each-found test Q there [] all = tt
  each-found test Q there (e ∷ kept) all = by (test e.0) refl (each-found test Q there kept (All-tail (λ (e : K × X). P e.0 e.1) e kept all))
    where
      by : (b : Bool) → test e.0 ≡ b → IfSome (lookup test kept) Q → IfSome (cond b (Some e.1) (lookup test kept)) Q
      by true same others = there e.0 e.1 same (All-head (λ (e : K × X). P e.0 e.1) e kept all)
      by false same others = others

  pub each-inserted : (eq : K → K → Bool) (key : K) (x : X) → ((k : K) → eq key k ≡ true → P k x) → P key x → (kept : List (K × X)) → Each kept → Each (insert_entry eq kept key x)
  each-inserted eq key x same new [] all = All-cons (λ (e : K × X). P e.0 e.1) (key, x) [] new (All-nil (λ (e : K × X). P e.0 e.1))
  each-inserted eq key x same new (e ∷ kept) all =
      let others = All-tail (λ (e : K × X). P e.0 e.1) e kept all in
      by (eq key e.0) refl others (each-inserted eq key x same new kept others)
    where
      by : (b : Bool) → eq key e.0 ≡ b → Each kept → Each (insert_entry eq kept key x) → Each (cond b ((e.0, x) ∷ kept) (e ∷ insert_entry eq kept key x))
      by true is others after = All-cons (λ (e : K × X). P e.0 e.1) (e.0, x) kept (same e.0 is) others
      by false is others after = All-cons (λ (e : K × X). P e.0 e.1) e (insert_entry eq kept key x) (All-head (λ (e : K × X). P e.0 e.1) e kept all) after

-- the rests of files by name
abbrev pub AreRests : Files → Bor (List ℕ) → Vec (Bor (List ℕ)) Global → Type 0
AreRests files file rests = StandAtLines (lines_of files file.now) rests.items

abbrev same_file : Bor (List ℕ) → Bor (List ℕ) → Bool
same_file a b = same_name a.now b.now

pub rests-found : (files : Files) (file : Bor (List ℕ)) (rests : Vec (Bor (List ℕ)) Global) (kept : List (Bor (List ℕ) × Vec (Bor (List ℕ)) Global)) →
    All (λ e. AreRests files e.0 e.1) kept → lookup (same_file file) kept ≡ Some rests → AreRests files file rests
rests-found files file rests kept all is =
    subst (λ o. IfSome o (AreRests files file)) is
    (each-found (AreRests files) (same_file file) (AreRests files file)
    (λ k x same there. subst (λ name. StandAtLines (lines_of files name) x.items) (sym (same_name_eq file.now k.now same)) there) kept all)

pub rests-kept : (files : Files) (file : Bor (List ℕ)) (rests : Vec (Bor (List ℕ)) Global) (kept after : List (Bor (List ℕ) × Vec (Bor (List ℕ)) Global)) →
    All (λ e. AreRests files e.0 e.1) kept → AreRests files file rests → after ≡ insert_entry same_file kept file rests → All (λ e. AreRests files e.0 e.1) after
rests-kept files file rests kept after all new is =
    All-same (λ (e : Bor (List ℕ) × Vec (Bor (List ℕ)) Global). AreRests files e.0 e.1) after (insert_entry same_file kept file rests) is
    (each-inserted (AreRests files) same_file file rests
    (λ k same. subst (λ name. StandAtLines (lines_of files name) rests.items) (same_name_eq file.now k.now same) new) new kept all)

-- the lines are read where they lie in memory
module _ {X : Type 0} (now : X → List ℕ) where
  -- one line more is appended
  pub one_pushed : (all : List X) (line : X) (lines more whole : List (List ℕ)) (i count : ℕ) → i < count → lines ≡ now line ∷ more →
      map now all ++ take (count - i) lines ≡ whole → map now (all ++ line ∷ []) ++ take (count - (i + 1)) more ≡ whole
  one_pushed all line lines more whole i count less is before =
      let left : count - i ≡ suc (count - (i + 1)) = omega (arith, less) in
      rw map-append (append_assoc (map now all) (now line ∷ []) (take (count - (i + 1)) more))
      ∙ ap (λ xs. map now all ++ xs) (sym ((λ j. take (left j) (is j)))) ∙ before

  -- one line more at the end has no text; the last one has
  pub textless_more : (lines : List X) (end : ℕ) (d : X) → 0 < end → end ≤ length lines → without_text (now (get_or lines (end - 1) d)) ≡ true →
      end + suffix_len without_text (map now lines) ≡ length (map now lines) + suffix_len without_text (take end (map now lines)) →
      (end - 1) + suffix_len without_text (map now lines) ≡ length (map now lines) + suffix_len without_text (take (end - 1) (map now lines))
  textless_more lines end d some within none before =
      let at : get_or (map now lines) (end - 1) [] ≡ now (get_or lines (end - 1) d) = get_or-map now lines (end - 1) d [] (omega arith) in
      let e = suffix_len-take_yes without_text (map now lines) end [] some (rw length-map within) (rw at none) in
      omega (arith, e)

  pub textless_ends : (lines : List X) (end : ℕ) (d : X) → 0 < end → end ≤ length lines → without_text (now (get_or lines (end - 1) d)) ≡ false →
      end + suffix_len without_text (map now lines) ≡ length (map now lines) + suffix_len without_text (take end (map now lines)) →
      end ≡ length (map now lines) - suffix_len without_text (map now lines)
  textless_ends lines end d some within text before =
      let at : get_or (map now lines) (end - 1) [] ≡ now (get_or lines (end - 1) d) = get_or-map now lines (end - 1) d [] (omega arith) in
      let e = suffix_len-take_no without_text (map now lines) end [] some (rw length-map within) (rw at text) in
      omega (arith, e)

  comments_are : (lines : List X) → flat_map (λ l. comment (now l)) lines ≡ flat_map comment (map now lines)
  comments_are [] = refl
  comments_are (line ∷ lines) = ap (λ text. comment (now line) ++ text) (comments_are lines)

  -- the comments of the lines that have text behind them
  pub shown_are : (all : List X) (n : ℕ) → n ≡ length (map now all) - suffix_len without_text (map now all) →
      flat_map (λ l. comment (now l)) (take n all) ≡ flat_map comment (with_text (map now all))
  shown_are all n count = comments_are (take n all) ∙ ap (flat_map comment) (sym (take-map now n all) ∙ ap (λ k. take k (map now all)) count)
