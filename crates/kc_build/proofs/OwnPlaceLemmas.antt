-- The place that an entry gets, by its first line and by what its attributes say.
use Rattle.std.proofs.{Common.{Bool, List, None, Option, Some, [], ap, arith, cond, false, filter, length, map, refl, suc, sym, true, ℕ, ◌+◌, ◌||◌, ◌∙◌, ◌∷◌, ◌≡◌}, Math.Bool.or-false}
use Rattle.std.specs.{List.slice_get, Option.{is_some, option_and_then, option_or}, Prelude.option_map}
use Rattle.kc_language.specs.{Expansion.{last_of, numbers}, Statements.{ChoiceLine, IfLine, MenuLine, Numbered}, Symbols.{dependency_in, prompt_of, range_in, stated_default, target_of, visible_in}}
use Rattle.kc_entries.specs.{StatementViews.head_view, declared.entries.EntryLines.EntryLines}
use Rattle.kc_entries.proofs.ListLemmas.{filter-map, last_of-map, numbers_front}
use Rattle.kc_tree.specs.{EntryViews.statements_of, Places.{asks, last_said, place_at, says, shows}, Stored.stored, declared.rows.{EntryId.EntryId, EntryPlace.EntryPlace, VisibleId.VisibleId}}
use Rattle.kc_build.specs.{Standing.{all_noted, bare_place, noted, opens_condition, own_place, shown_number}, declared.blocks.Blocks.Blocks}

or-later : (a b c : Bool) → ((a || b) || c) ≡ (a || (b || c))
or-later true b c = refl
or-later false b c = refl

both : {X : Type 0} (b : Bool) (x : X) → cond b x x ≡ x
both true x = refl
both false x = refl

cond-or : {X : Type 0} (a b : Bool) (x y : X) → cond b x (cond a x y) ≡ cond (a || b) x y
cond-or true b x y = both b x
cond-or false b x y = refl

-- The last line that says something, with one line in front of the others.
some-last : (y : ℕ) (l : List ℕ) → (z : ℕ) × (last_of (y ∷ l) ≡ Some z)
some-last y [] = (y, refl)
some-last y (x ∷ l) = some-last x l

kept : (o other : Option ℕ) (z : ℕ) → o ≡ Some z → option_map suc o ≡ option_or (option_map suc o) other
kept None other z e = absurd cc
kept (Some y) other z e = refl

lead : (b : Bool) (l : List ℕ) → last_of (cond b (0 ∷ map suc l) (map suc l)) ≡ option_or (option_map suc (last_of l)) (cond b (Some 0) None)
lead true [] = refl
lead false [] = refl
lead true (y ∷ l) = let z = some-last y l in last_of-map suc (y ∷ l) ∙ kept (last_of (y ∷ l)) (Some 0) (z.0) (z.1)
lead false (y ∷ l) = let z = some-last y l in last_of-map suc (y ∷ l) ∙ kept (last_of (y ∷ l)) None (z.0) (z.1)

last_said-front : {X : Type 0} (f : Numbered → Option X) (s : Numbered) (own : List Numbered) →
    last_said f (s ∷ own) ≡ option_or (option_map suc (last_said f own)) (cond (is_some (f s)) (Some 0) None)
last_said-front f s own =
    let q : ℕ → Bool = λ j. is_some (option_and_then f (slice_get (s ∷ own) j)) in
    ap (λ ns. last_of (filter q ns)) (numbers_front (length own))
    ∙ ap (λ l. last_of (cond (is_some (f s)) (0 ∷ l) l)) (filter-map q suc (numbers (length own)))
    ∙ lead (is_some (f s)) (filter (λ j. is_some (option_and_then f (slice_get own j))) (numbers (length own)))

-- the prompt that is stored: that of the last line that has one, or this one
abbrev last_prompt : ℕ → Option ℕ → ℕ → ℕ
last_prompt j o n = elim o [ None ↦ n | Some i ↦ suc (j + i) ]

prompt-by : (j n : ℕ) (b : Bool) (o : Option ℕ) → last_prompt (suc j) o (cond b (suc j) n) ≡ last_prompt j (option_or (option_map suc o) (cond b (Some 0) None)) n
prompt-by j n true None = omega arith
prompt-by j n false None = refl
prompt-by j n b (Some i) = omega arith

-- What the attributes change.
module _ (at : EntryId) (visible : VisibleId) where
  noted-outer : (j : ℕ) (own : List Numbered) (p : EntryPlace) → (all_noted at visible j own p).outer ≡ p.outer
  noted-outer j [] p = refl
  noted-outer j (s ∷ own) p = noted-outer (suc j) own (noted at visible j s p)

  noted-context : (j : ℕ) (own : List Numbered) (p : EntryPlace) → (all_noted at visible j own p).context ≡ cond (says dependency_in own) at p.context
  noted-context j [] p = refl
  noted-context j (s ∷ own) p = noted-context (suc j) own (noted at visible j s p) ∙ cond-or (is_some (dependency_in s)) (says dependency_in own) at p.context

  noted-visible : (j : ℕ) (own : List Numbered) (p : EntryPlace) → (all_noted at visible j own p).visible ≡ cond (says visible_in own) visible p.visible
  noted-visible j [] p = refl
  noted-visible j (s ∷ own) p = noted-visible (suc j) own (noted at visible j s p) ∙ cond-or (is_some (visible_in s)) (says visible_in own) visible p.visible

  noted-default : (j : ℕ) (own : List Numbered) (p : EntryPlace) → (all_noted at visible j own p).has_default ≡ (p.has_default || says stated_default own)
  noted-default j [] p = sym (or-false p.has_default)
  noted-default j (s ∷ own) p = noted-default (suc j) own (noted at visible j s p) ∙ or-later p.has_default (is_some (stated_default s)) (says stated_default own)

  noted-range : (j : ℕ) (own : List Numbered) (p : EntryPlace) → (all_noted at visible j own p).has_range ≡ (p.has_range || says range_in own)
  noted-range j [] p = sym (or-false p.has_range)
  noted-range j (s ∷ own) p = noted-range (suc j) own (noted at visible j s p) ∙ or-later p.has_range (is_some (range_in s)) (says range_in own)

  noted-target : (j : ℕ) (own : List Numbered) (p : EntryPlace) → (all_noted at visible j own p).has_target ≡ (p.has_target || says target_of own)
  noted-target j [] p = sym (or-false p.has_target)
  noted-target j (s ∷ own) p = noted-target (suc j) own (noted at visible j s p) ∙ or-later p.has_target (is_some (target_of s)) (says target_of own)

  prompt-cond : (b : Bool) (j : ℕ) (p : EntryPlace) (s : Numbered) → is_some (prompt_of s) ≡ b → (noted at visible j s p).prompt.0 ≡ cond b (suc j) p.prompt.0
  prompt-cond true j p s e = rw e refl
  prompt-cond false j p s e = rw e refl

  noted-prompt : (j : ℕ) (own : List Numbered) (p : EntryPlace) → (all_noted at visible j own p).prompt.0 ≡ last_prompt j (last_said prompt_of own) p.prompt.0
  noted-prompt j [] p = refl
  noted-prompt j (s ∷ own) p =
      noted-prompt (suc j) own (noted at visible j s p)
      ∙ ap (last_prompt (suc j) (last_said prompt_of own)) (prompt-cond (is_some (prompt_of s)) j p s refl)
      ∙ prompt-by j p.prompt.0 (is_some (prompt_of s)) (last_said prompt_of own)
      ∙ ap (λ o. last_prompt j o p.prompt.0) (sym (last_said-front prompt_of s own))

stored-prompt : (start : ℕ) (o : Option ℕ) → last_prompt start o 0 ≡ stored (option_map (λ j. start + j) o)
stored-prompt start None = refl
stored-prompt start (Some i) = refl

context-is : (head : Numbered) (own : List Numbered) (at other : EntryId) → cond (says dependency_in own) at (cond (opens_condition head) at other) ≡ cond (asks (Some head) own) at other
context-is (IfLine e) own at other = both (says dependency_in own) at
context-is ChoiceLine own at other = both (says dependency_in own) at
context-is _ own at other = refl

visible-is : (head : Numbered) (own : List Numbered) (around : EntryPlace) (n : ℕ) →
    cond (says visible_in own) (shown_number around n head) around.visible ≡ cond (shows (Some head) own) (record { 0 = suc n }) around.visible
visible-is (MenuLine t) own around n = refl
visible-is _ own around n = both (says visible_in own) around.visible

-- The place of an entry with this first line and these attributes, in a block that stands in this place.
pub record IsOwn (around : EntryPlace) (block at : EntryId) (n start : ℕ) (head : Numbered) (own : List Numbered) (p : EntryPlace) : Type 0 where
  pub outer : p.outer ≡ block
  pub context : p.context ≡ cond (asks (Some head) own) at around.context
  pub visible : p.visible ≡ cond (shows (Some head) own) (record { 0 = suc n }) around.visible
  pub prompt : p.prompt.0 ≡ stored (option_map (λ j. start + j) (last_said prompt_of own))
  pub has_default : p.has_default ≡ says stated_default own
  pub has_range : p.has_range ≡ says range_in own
  pub has_target : p.has_target ≡ says target_of own

pub own-is : (b : Blocks) (at : EntryId) (x : EntryLines) →
    IsOwn (place_at b.places.items b.block.0) b.block at (length b.visibles.items) x.first.now.start (head_view x.first.now.head) (statements_of x.attributes.now) (own_place b at x)
own-is b at x =
    let around = place_at b.places.items b.block.0 in
    let head = head_view x.first.now.head in
    let own = statements_of x.attributes.now in
    let n = length b.visibles.items in
    let v = shown_number (place_at b.places.items b.block.0) (length b.visibles.items) (head_view x.first.now.head) in
    let bare = bare_place (place_at b.places.items b.block.0) b.block at (head_view x.first.now.head) in
    let start = x.first.now.start in
    record {
      outer = noted-outer at v start own bare;
      context = noted-context at v start own bare ∙ context-is head own at around.context;
      visible = noted-visible at v start own bare ∙ visible-is head own around n;
      prompt = noted-prompt at v start own bare ∙ stored-prompt start (last_said prompt_of own);
      has_default = noted-default at v start own bare;
      has_range = noted-range at v start own bare;
      has_target = noted-target at v start own bare;
    }

-- One attribute after the other.
pub number-same : (around : EntryPlace) (block at : EntryId) (n : ℕ) (head : Numbered) → shown_number (bare_place around block at head) n head ≡ shown_number around n head
number-same around block at n (MenuLine t) = refl
number-same around block at n _ = refl
