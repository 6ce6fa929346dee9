-- How the blocks of an expanded list lie in one another: no choice stands in a choice, each closer closes a block of its
-- own kind, and none is open at the end.
use Rattle.std.proofs.{Common.{Err, List, MatchOption, None, Ok, Option, Result, Some, [], ap, append-nil, append_assoc, false, inl, inr, map, refl, subst, suc, sym, take, zero, ℕ, ◌++◌, ◌||◌, ◌∙◌, ◌∷◌, ◌≡◌}, lemmas.List.Folds.list_any-append}
use Rattle.std.specs.{List.{list_any, slice_get}, Prelude.◌⊎◌}
use Rattle.kc_language.specs.{Expansion.{Bracket, Closes, Expands, FileContext, Files, NoBracket, Opens, ReadSoFar, Reading, Refused, Rest, at_end, at_root, blank, bracket, bytes_cause, context_of, goes_on, inside, is_choice_block, last_of, moved, open_blocks, refusal_at, refused, refused_inside, renumbered, source, statement, unclosed, with_file, with_line}, Lines.{UnreadLines, unread_lines}, Statements.{Cause, ChoiceLine, EndChoiceLine, EndIfLine, EndMenuLine, IfLine, LineContext, Located, MenuLine, Named, SourceLine, Statement, statements}, declared.statements.Block.Block}
use Rattle.kc_language.specs.declared.statements.Block.TheVariants as block
use Rattle.kc_entries.specs.PartsOfExpansion.{logged}
use Rattle.kc_read.specs.Progress.{Opener, located_blocks, open_blocks_after}
use Rattle.kc_read.proofs.{BlockLemmas.{blocks_of_located, located_blocks_push}, TurnLemmas.{Adds, Chooses, Enables, Leaves, Stays, SuitsHere, Turn, read_suits, turn}}
use Rattle.kc_entries.proofs.ListLemmas.{but_last, but_last-append, but_last-take, last_of-append, map-push}

-- these open blocks are as a line asks
abbrev pub Suits : List Block → Turn → Type 0
Suits bs Chooses = list_any is_choice_block bs ≡ false
Suits bs (Leaves b) = last_of bs ≡ Some b
Suits bs Enables = Unit {0}
Suits bs Adds = Unit {0}
Suits bs Stays = Unit {0}

-- each line suits the blocks that are open before it
abbrev pub AreNested : {E L S : Type 0} → List (Statement E L S) → Type 0
AreNested ss = (i : ℕ) (s : _) → slice_get ss i ≡ Some s → Suits (open_blocks (take i ss)) (turn s)

-- The open blocks, one line later.
abbrev pub blocks_after : Bracket → List Block → List Block
blocks_after (Opens b) bs = bs ++ b ∷ []
blocks_after Closes bs = but_last bs
blocks_after NoBracket bs = bs

map-but_last : {A B : Type 0} (f : A → B) (xs : List A) → map f (but_last xs) ≡ but_last (map f xs)
map-but_last f [] = refl
map-but_last f (x ∷ []) = refl
map-but_last f (x ∷ y ∷ ys) = ap (λ l. f x ∷ l) (map-but_last f (y ∷ ys))

abbrev block_of : Opener → Block
block_of o = o.block

blocks_after_one : (b : Bracket) (file : List ℕ) (n : ℕ) (os : List Opener) → map block_of (open_blocks_after b file n os) ≡ blocks_after b (map block_of os)
blocks_after_one (Opens b) file n os = map-push block_of os (record { block = b; file = file; line = n })
blocks_after_one Closes file n os = ap (map block_of) (but_last-take os) ∙ map-but_last block_of os
blocks_after_one NoBracket file n os = refl

blocks_push : (ls : List (Located Named)) (l : Located Named) → open_blocks (statements (ls ++ l ∷ [])) ≡ blocks_after (bracket l.statement) (open_blocks (statements ls))
blocks_push ls l =
    sym (blocks_of_located (ls ++ l ∷ [])) ∙ ap (map block_of) (located_blocks_push ls l)
    ∙ blocks_after_one (bracket l.statement) l.file l.line (located_blocks ls)
    ∙ ap (blocks_after (bracket l.statement)) (blocks_of_located ls)

last_there : (bs : List Block) (b : Block) → last_of bs ≡ Some b → (c : Block) × (cs : List Block) × (bs ≡ c ∷ cs)
last_there [] b e = absurd cc
last_there (c ∷ cs) b e = (c, cs, refl)

abbrev Within : List Block → Bracket → Type 0
Within bs Closes = (c : Block) × (cs : List Block) × (bs ≡ c ∷ cs)
Within bs (Opens b) = Unit {0}
Within bs NoBracket = Unit {0}

-- what is open outside stays open
after_within : (b : Bracket) (outer bs : List Block) → Within bs b → blocks_after b (outer ++ bs) ≡ outer ++ blocks_after b bs
after_within (Opens b) outer bs w = append_assoc outer bs (b ∷ [])
after_within Closes outer bs w =
    ap (λ cs. but_last (outer ++ cs)) w.2 ∙ but_last-append outer w.0 w.1 ∙ ap (λ cs. outer ++ but_last cs) (sym w.2)
after_within NoBracket outer bs w = refl

-- The whole list, one line later.
abbrev At : List Named → Named → ℕ → Named → Type 0
At ss s i x = ((slice_get ss i ≡ Some x) × (take i (ss ++ s ∷ []) ≡ take i ss)) ⊎ ((x ≡ s) × (take i (ss ++ s ∷ []) ≡ ss))

at_push : (ss : List Named) (s : Named) (i : ℕ) (x : Named) → slice_get (ss ++ s ∷ []) i ≡ Some x → At ss s i x
at_push [] s zero x e = inr (cc, refl)
at_push [] s (suc i) x e = absurd cc
at_push (y ∷ ys) s zero x e = inl (e, refl)
at_push (y ∷ ys) s (suc i) x e =
    elim (at_push ys s i x e) as (λ _. At (y ∷ ys) s (suc i) x) [
      | inl p ↦ inl (p.0, ap (λ l. y ∷ l) p.1)
      | inr p ↦ inr (p.0, ap (λ l. y ∷ l) p.1)
    ]

suits_push : (ss : List Named) (s x : Named) (i : ℕ) → AreNested ss → Suits (open_blocks ss) (turn s) → At ss s i x → Suits (open_blocks (take i (ss ++ s ∷ []))) (turn x)
suits_push ss s x i n h (inl p) = subst (λ l. Suits (open_blocks l) (turn x)) (sym p.1) (n i x p.0)
suits_push ss s x i n h (inr p) = subst (λ l. Suits (open_blocks l) (turn x)) (sym p.1) (subst (λ y. Suits (open_blocks ss) (turn y)) (sym p.0) h)

nested_push : (ss : List Named) (s : Named) → AreNested ss → Suits (open_blocks ss) (turn s) → AreNested (ss ++ s ∷ [])
nested_push ss s n h = λ i x e. suits_push ss s x i n h (at_push ss s i x e)

-- What is known between the lines of a file: of the whole list so far, and of this file's part.
record Stands (a : FileContext) (own : List (Located Named)) (log : ReadSoFar) : Type 0 where
  nested : AreNested (statements log.lines)
  blocks : open_blocks (statements log.lines) ≡ a.blocks ++ open_blocks (statements own)

-- what suits the context of a line suits the whole list
suits_all : (outer inner : List Block) (t : Turn) (c : LineContext) → c.own ≡ last_of inner →
    c.in_choice ≡ (list_any is_choice_block outer || list_any is_choice_block inner) → SuitsHere c t → Suits (outer ++ inner) t
suits_all outer inner Chooses c e f h = list_any-append is_choice_block outer inner ∙ sym f ∙ h
suits_all outer inner (Leaves b) c e f h = last_of-append outer inner b (sym e ∙ h)
suits_all outer inner Enables c e f h = tt
suits_all outer inner Adds c e f h = tt
suits_all outer inner Stays c e f h = tt

-- a closer closes a block of its own file
within_own : (s : Named) (c : LineContext) (bs : List Block) → c.own ≡ last_of bs → SuitsHere c (turn s) → Within bs (bracket s)
within_own EndIfLine c bs e h = last_there bs block.If (sym e ∙ h)
within_own EndMenuLine c bs e h = last_there bs block.Menu (sym e ∙ h)
within_own EndChoiceLine c bs e h = last_there bs block.Choice (sym e ∙ h)
within_own (IfLine d) c bs e h = tt
within_own (MenuLine t) c bs e h = tt
within_own ChoiceLine c bs e h = tt
within_own _ c bs e h = tt

line_stands : (a : FileContext) (own : List (Located Named)) (log : ReadSoFar) (s : Named) (n : ℕ) → Stands a own log → SuitsHere (context_of a own log) (turn s) →
    Stands a (with_line own a n s) (logged log a n s)
line_stands a own log s n i h =
    let now = open_blocks (statements own) in
    let said : statements (with_line log.lines a n s) ≡ statements log.lines ++ s ∷ [] = map-push (λ l. l.statement) log.lines (record { file = a.file; line = n; statement = s }) in
    let fits : Suits (open_blocks (statements log.lines)) (turn s) = subst (λ bs. Suits bs (turn s)) (sym i.blocks) (suits_all a.blocks now (turn s) (context_of a own log) refl refl h) in
    record {
      nested = subst AreNested (sym said) (nested_push (statements log.lines) s i.nested fits);
      blocks =
          blocks_push log.lines (record { file = a.file; line = n; statement = s })
          ∙ ap (blocks_after (bracket s)) i.blocks
          ∙ after_within (bracket s) a.blocks now (within_own s (context_of a own log) now refl h)
          ∙ ap (λ bs. a.blocks ++ bs) (sym (blocks_push own (record { file = a.file; line = n; statement = s })));
    }

-- What a list is between files: its blocks close as they should, and these are open.
pub record IsNested (bs : List Block) (ss : List Named) : Type 0 where
  pub nested : AreNested ss
  pub blocks : open_blocks ss ≡ bs

-- what a file leaves: no block of its own is open
abbrev Leaving : List Block → Result ReadSoFar Refused → Type 0
Leaving bs (Ok log) = IsNested bs (statements log.lines)
Leaving bs (Err r) = Unit {0}

sourced_stands : (a : FileContext) (own : List (Located Named)) (more : ReadSoFar) (name : List ℕ) (n : ℕ) →
    IsNested (a.blocks ++ open_blocks (statements own)) (statements more.lines) → Stands a (with_line own a n (SourceLine name)) more
sourced_stands a own more name n h =
    let opener : Located Named = record { file = a.file; line = n; statement = SourceLine name } in
    record { nested = h.nested; blocks = h.blocks ∙ ap (λ bs. a.blocks ++ bs) (sym (blocks_push own opener)) }

rest_leaves : {files : Files} {at : Reading} {r : Result ReadSoFar Refused} → Rest files at r → Stands at.context at.own at.log → Leaving at.context.blocks r
rest_leaves (at_end at e none) i =
    record { nested = i.nested; blocks = i.blocks ∙ ap (λ bs. at.context.blocks ++ bs) none ∙ append-nil at.context.blocks }
rest_leaves (unclosed at line e u) i = tt
rest_leaves (refused at c here) i = tt
rest_leaves (goes_on at next r (blank m n) rest) i = rest_leaves rest i
rest_leaves (goes_on at next r (renumbered m n marks) rest) i = rest_leaves rest i
rest_leaves (goes_on at next r (moved m n name marks differs) rest) i =
    let opener : Located Named = record { file = at.context.file; line = at.unread.number; statement = SourceLine name } in
    rest_leaves rest (record { nested = i.nested; blocks = i.blocks ∙ ap (λ bs. at.context.blocks ++ bs) (sym (blocks_push at.own opener)) })
rest_leaves (goes_on at next r (statement m s n e f) rest) i =
    rest_leaves rest (line_stands at.context at.own at.log s at.unread.number i (read_suits (context_of at.context at.own at.log) n.tokens s n.reads))
rest_leaves (refused_inside at f e inner) i = tt
rest_leaves (source at f more r inner rest) i =
    let stands : Stands (inside at.context at.own f.name) [] (with_file at.log f.name f.bytes) = record {
      nested = i.nested;
      blocks = i.blocks ∙ sym (append-nil (at.context.blocks ++ open_blocks (statements at.own)));
    } in
    rest_leaves rest (sourced_stands at.context at.own more f.name at.unread.number (rest_leaves inner stands))

-- In the expanded list each line suits its enclosing blocks, and no block is open at the end.
pub expansion_is_nested : (files : Files) (root : List ℕ) (log : ReadSoFar) → Expands files root (Ok log) → IsNested [] (statements log.lines)
expansion_is_nested files root log x = by (bytes_cause root 0 (files.bytes root)) x
  where
    by : (o : Option Cause) → MatchOption o ((bytes : List ℕ) × (files.bytes root ≡ Some bytes)
        × Rest files (at_root files root bytes) (Ok log)) (λ c. Ok log ≡ Err (refusal_at c root 0)) →
        IsNested [] (statements log.lines)
    by None e = rest_leaves e.2 (record { nested = λ i s f. absurd cc; blocks = refl })
    by (Some c) e = absurd cc
