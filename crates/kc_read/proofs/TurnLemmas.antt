-- What a line that is read asks of its context.
use Rattle.std.proofs.Common.{Bool, Err, List, None, Ok, Option, Result, Some, [], ap, codes, drop, false, if◌then◌else◌, inl, inr, not, refl, subst, sym, true, ℕ, ◌&&◌, ◌||◌, ◌∙◌, ◌∷◌, ◌≡◌}
use Rattle.kc_language.specs.{Expansion.{is_attribute, is_modules}, Expressions.{Disjunction, if_word}, Statements.{After, Cause, ChoiceLine, CommentLine, ConfigLine, DefLine, DefaultLine, DependsLine, EndChoiceLine, EndIfLine, EndMenuLine, HelpLine, IfLine, IgnoredLine, ImplyLine, InputPrompt, LineContext, MainMenuLine, MenuLine, ModulesLine, Named, PromptLine, RangeLine, ReadsCondition, ReadsLine, ReadsPrompt, ReadsRest, ReadsSource, ReadsTextLine, ReadsValue, ReadsWhole, SelectLine, SourceLine, Statement, TypeLine, VisibleLine, begins_with, closing_cause, finish, in_place, is_choice_entry, is_config, is_good_name, keyword_of, keyword_or_refusal, named_target, operand_of, option_line, placement_cause, plain_text, text_of, type_placement, unless_placed, word_of}, Tokens.Lexeme, declared.{expressions.SymbolType.SymbolType, statements.{Block.Block, EntryKind.EntryKind, Keyword.Keyword}}}
use Rattle.kc_language.specs.declared.statements.Block.TheVariants as block
use Rattle.kc_language.specs.declared.statements.EntryKind.TheVariants as entry
use Rattle.kc_language.specs.declared.statements.Keyword.TheVariants as key
use Rattle.kc_entries.specs.PartsOfStatements.{ReadsConfig, ReadsDepends, ReadsPlaced, ReadsRange, ReadsTarget, ReadsType, ReadsVisible, choice_line, expected, good_name, is_entry, is_menu}

-- What a line asks: that no enclosing block is a choice; that the innermost is of this kind; that its
-- entry is a `config` entry; that it has an entry.
pub data Turn : Type 0 where
  Chooses : Turn
  Leaves : Block → Turn
  Enables : Turn
  Adds : Turn
  Stays : Turn

abbrev pub turn : {E L S : Type 0} → Statement E L S → Turn
turn ChoiceLine = Chooses
turn EndIfLine = Leaves block.If
turn EndMenuLine = Leaves block.Menu
turn EndChoiceLine = Leaves block.Choice
turn ModulesLine = Enables
turn (TypeLine k p) = Adds
turn (PromptLine p) = Adds
turn (DefaultLine v w) = Adds
turn (DefLine k v w) = Adds
turn (DependsLine e) = Adds
turn (VisibleLine e) = Adds
turn (SelectLine n w) = Adds
turn (ImplyLine n w) = Adds
turn (RangeLine a b w) = Adds
turn HelpLine = Adds
turn IgnoredLine = Adds
turn _ = Stays

-- the context of a line is as it asks
abbrev pub SuitsHere : LineContext → Turn → Type 0
SuitsHere c Chooses = c.in_choice ≡ false
SuitsHere c (Leaves b) = c.own ≡ Some b
SuitsHere c Enables = is_config c.entry ≡ true
SuitsHere c Adds = is_entry c.entry ≡ true
SuitsHere c Stays = Unit {0}

stays_here : (c : LineContext) (s : Named) → turn s ≡ Stays → SuitsHere c (turn s)
stays_here c s e = subst (SuitsHere c) (sym e) tt

adds_here : (c : LineContext) (s : Named) → is_entry c.entry ≡ true → turn s ≡ Adds → SuitsHere c (turn s)
adds_here c s h e = subst (SuitsHere c) (sym e) h

made_here : (c : LineContext) (s x : Named) → s ≡ x → SuitsHere c (turn x) → SuitsHere c (turn s)
made_here c s x e h = subst (λ y. SuitsHere c (turn y)) (sym e) h

-- a part that is one token was read, and then what follows
pub after : {A B : Type 0} (o : Result A Cause) (Next : A → Result B Cause → Type 0) (b : B) (P : Type 0) → After o Next (Ok b) → ((a : A) → o ≡ Ok a → Next a (Ok b) → P) → P
after (Ok a) Next b P r f = f a refl r
after (Err c) Next b P r f = absurd cc

finish_is : {A : Type 0} (x s : A) (ts : List Lexeme) → Ok s ≡ finish x ts → s ≡ x
finish_is x s [] e = cc
finish_is x s (t ∷ ts) e = absurd cc

-- What the other lines ask.
whole_turns : (v : Turn) (make : Disjunction → Named) (ts : List Lexeme) (s : Named) → ((d : Disjunction) → turn (make d) ≡ v) → ReadsWhole make ts (Ok s) → turn s ≡ v
whole_turns v make ts s h r = ap turn r.2 ∙ h r.0

condition_turns : (v : Turn) (make : Option Disjunction → Named) (ts : List Lexeme) (s : Named) → ((d : Option Disjunction) → turn (make d) ≡ v) → ReadsCondition make ts (Ok s) → turn s ≡ v
condition_turns v make ts s h r = ap turn r.2 ∙ h r.0

text_turns : (v : Turn) (make : List ℕ → Named) (ts : List Lexeme) (s : Named) → ((t : List ℕ) → turn (make t) ≡ v) → ReadsTextLine make ts (Ok s) → turn s ≡ v
text_turns v make ts s h r = after (text_of ts) (λ t r. r ≡ finish (make t) (drop 1 ts)) s (turn s ≡ v) r (λ t e q. ap turn (finish_is (make t) s (drop 1 ts) q) ∙ h t)

asked_turns : (v : Turn) (make : InputPrompt Disjunction → Named) (ts : List Lexeme) (s : Named) → ((p : InputPrompt Disjunction) → turn (make p) ≡ v) → ReadsPrompt make ts (Ok s) → turn s ≡ v
asked_turns v make ts s h r =
    after (text_of ts) (λ t. ReadsCondition (λ w. make (record { text = t; when = w })) (drop 1 ts)) s (turn s ≡ v) r
    (λ t e q. condition_turns v (λ w. make (record { text = t; when = w })) (drop 1 ts) s (λ w. h (record { text = t; when = w })) q)

value_turns : (v : Turn) (make : Disjunction → Option Disjunction → Named) (ts : List Lexeme) (s : Named) →
    ((d : Disjunction) (w : Option Disjunction) → turn (make d w) ≡ v) → ReadsValue make ts (Ok s) → turn s ≡ v
value_turns v make ts s h r = ap turn r.4 ∙ h (r.0.tree) r.1

target_turns : (v : Turn) (make : List ℕ → Option Disjunction → Named) (ts : List Lexeme) (s : Named) → ((n : List ℕ) (w : Option Disjunction) → turn (make n w) ≡ v) →
    ReadsTarget make ts (Ok s) → turn s ≡ v
target_turns v make ts s h r =
    after (named_target ts) (λ t. ReadsCondition (make t) (drop 1 ts)) s (turn s ≡ v) r (λ t e q. condition_turns v (make t) (drop 1 ts) s (h t) q)

range_adds : (ts : List Lexeme) (s : Named) → ReadsRange ts (Ok s) → turn s ≡ Adds
range_adds ts s r =
    after (operand_of ts) (λ a. After (operand_of (drop 1 ts)) (λ b. ReadsCondition (RangeLine a b) (drop 2 ts))) s (turn s ≡ Adds) r
    (λ a e q. after (operand_of (drop 1 ts)) (λ b. ReadsCondition (RangeLine a b) (drop 2 ts)) s (turn s ≡ Adds) q (λ b f p. condition_turns Adds (RangeLine a b) (drop 2 ts) s (λ w. refl) p))

type_adds : (k : SymbolType) (ts : List Lexeme) (s : Named) → ReadsType k ts (Ok s) → turn s ≡ Adds
type_adds k ts s (inl e) = let same : s ≡ TypeLine k None = (let f = e.1 in cc) in ap turn same
type_adds k ts s (inr e) = asked_turns Adds (λ p. TypeLine k (Some p)) ts s (λ p. refl) e.1

depends_adds : (ts : List Lexeme) (s : Named) → ReadsDepends ts (Ok s) → turn s ≡ Adds
depends_adds ts s r = after (expected (codes "on") ts) (λ us. ReadsWhole DependsLine us) s (turn s ≡ Adds) r (λ us e q. whole_turns Adds DependsLine us s (λ d. refl) q)

visible_adds : (ts : List Lexeme) (s : Named) → ReadsVisible ts (Ok s) → turn s ≡ Adds
visible_adds ts s r = after (expected if_word ts) (λ us. ReadsWhole VisibleLine us) s (turn s ≡ Adds) r (λ us e q. whole_turns Adds VisibleLine us s (λ d. refl) q)

source_stays : (ts : List Lexeme) (s : Named) → ReadsSource ts (Ok s) → turn s ≡ Stays
source_stays ts s r =
    after (text_of ts) (λ t. After (plain_text t) (λ u r. r ≡ finish (SourceLine u) (drop 1 ts))) s (turn s ≡ Stays) r
    (λ t e q. after (plain_text t) (λ u r. r ≡ finish (SourceLine u) (drop 1 ts)) s (turn s ≡ Stays) q (λ u f p. ap turn (finish_is (SourceLine u) s (drop 1 ts) p)))

named_stays : (s : Named) (w : List ℕ) (b : Bool) → is_good_name w ≡ b → Ok s ≡ good_name w → turn s ≡ Stays
named_stays s w true e h = let same : s ≡ ConfigLine w = (let f = (rw e at h) in cc) in ap turn same
named_stays s w false e h = let f = (rw e at h) in absurd cc

config_stays : (ts : List Lexeme) (s : Named) → ReadsConfig ts (Ok s) → turn s ≡ Stays
config_stays ts s r =
    after (word_of ts) (λ w. After (finish w (drop 1 ts)) (λ v r. r ≡ good_name v)) s (turn s ≡ Stays) r
    (λ w e q. after (finish w (drop 1 ts)) (λ v r. r ≡ good_name v) s (turn s ≡ Stays) q (λ v f p. named_stays s v (is_good_name v) refl p))

-- What a line is placed by.
config_placed : (k : EntryKind) → unless_placed (is_config k) ≡ None → is_entry k ≡ true
config_placed entry.Config e = refl
config_placed _ e = absurd cc

either_placed : (k : EntryKind) → unless_placed (is_config k || is_choice_entry k) ≡ None → is_entry k ≡ true
either_placed entry.Config e = refl
either_placed entry.Choice e = refl
either_placed _ e = absurd cc

menu_placed : (k : EntryKind) → unless_placed (is_menu k) ≡ None → is_entry k ≡ true
menu_placed entry.Menu e = refl
menu_placed _ e = absurd cc

entry_placed : (k : EntryKind) → unless_placed (is_entry k) ≡ None → is_entry k ≡ true
entry_placed entry.Nothing e = absurd cc
entry_placed _ e = refl

type_placed : (k : EntryKind) (t : SymbolType) → type_placement k t ≡ None → is_entry k ≡ true
type_placed entry.Config t e = refl
type_placed entry.Choice t e = refl
type_placed entry.Menu t e = refl
type_placed entry.Comment t e = refl
type_placed entry.Nothing t e = absurd cc

-- a `modules` line is read in a `config` entry
placed_in_config : (a b : Bool) → unless_placed (a && b) ≡ None → a ≡ true
placed_in_config true b e = refl
placed_in_config false b e = absurd cc

option_suits : (c : LineContext) (s : Named) (ts : List Lexeme) (a b d e : Bool) → begins_with (codes "modules") ts ≡ a → begins_with (codes "allnoconfig_y") ts ≡ b →
    begins_with (codes "env") ts ≡ d → begins_with (codes "defconfig_list") ts ≡ e →
    (if begins_with (codes "modules") ts then unless_placed (is_config c.entry && c.modules) else unless_placed (is_config c.entry)) ≡ None →
    Ok s ≡ option_line ts → SuitsHere c (turn s)
option_suits c s ts true b d e f g h i p r =
    made_here c s ModulesLine (finish_is ModulesLine s (drop 1 ts) (rw f at r)) (placed_in_config (is_config c.entry) c.modules (rw f at p))
option_suits c s ts false true d e f g h i p r =
    adds_here c s (config_placed c.entry (rw f at p)) (ap turn (finish_is IgnoredLine s (drop 1 ts) (rw (f, g) at r)))
option_suits c s ts false false true e f g h i p r = let q = (rw (f, g, h) at r) in absurd cc
option_suits c s ts false false false true f g h i p r = let q = (rw (f, g, h, i) at r) in absurd cc
option_suits c s ts false false false false f g h i p r = let q = (rw (f, g, h, i) at r) in absurd cc

choice_is : (ts : List Lexeme) (s : Named) → Ok s ≡ choice_line ts → s ≡ ChoiceLine
choice_is [] s e = cc
choice_is (t ∷ ts) s e = absurd cc

own_is : (b : Block) (o : Option Block) → closing_cause b o ≡ None → o ≡ Some b
own_is block.If (Some block.If) e = refl
own_is block.If (Some block.Menu) e = absurd cc
own_is block.If (Some block.Choice) e = absurd cc
own_is block.If None e = absurd cc
own_is block.Menu (Some block.If) e = absurd cc
own_is block.Menu (Some block.Menu) e = refl
own_is block.Menu (Some block.Choice) e = absurd cc
own_is block.Menu None e = absurd cc
own_is block.Choice (Some block.If) e = absurd cc
own_is block.Choice (Some block.Menu) e = absurd cc
own_is block.Choice (Some block.Choice) e = refl
own_is block.Choice None e = absurd cc

not_there : (b : Bool) → unless_placed (not b) ≡ None → b ≡ false
not_there true e = absurd cc
not_there false e = refl

kept : (c : LineContext) (w : List ℕ) (ts : List Lexeme) (k : Keyword) (s : Named) → placement_cause c w ts k ≡ None → ReadsRest w k ts (Ok s) → SuitsHere c (turn s)
kept c w ts key.Config s p r = stays_here c s (config_stays ts s r)
kept c w ts key.If s p r = stays_here c s (whole_turns Stays IfLine ts s (λ d. refl) r)
kept c w ts key.EndIf s p r = made_here c s EndIfLine (finish_is EndIfLine s ts r) (own_is block.If c.own p)
kept c w ts key.Comment s p r = stays_here c s (text_turns Stays CommentLine ts s (λ t. refl) r)
kept c w ts key.Source s p r = stays_here c s (source_stays ts s r)
kept c w ts key.Menu s p r = stays_here c s (text_turns Stays MenuLine ts s (λ t. refl) r)
kept c w ts key.EndMenu s p r = made_here c s EndMenuLine (finish_is EndMenuLine s ts r) (own_is block.Menu c.own p)
kept c w ts key.Choice s p r = made_here c s ChoiceLine (choice_is ts s r) (not_there c.in_choice p)
kept c w ts key.EndChoice s p r = made_here c s EndChoiceLine (finish_is EndChoiceLine s ts r) (own_is block.Choice c.own p)
kept c w ts key.MainMenu s p r = stays_here c s (text_turns Stays MainMenuLine ts s (λ t. refl) r)
kept c w ts (key.Type k) s p r = adds_here c s (type_placed c.entry k p) (type_adds k ts s r)
kept c w ts key.Prompt s p r = adds_here c s (either_placed c.entry p) (asked_turns Adds PromptLine ts s (λ q. refl) r)
kept c w ts key.Default s p r = adds_here c s (either_placed c.entry p) (value_turns Adds DefaultLine ts s (λ v q. refl) r)
kept c w ts (key.Def k) s p r = adds_here c s (config_placed c.entry p) (value_turns Adds (DefLine k) ts s (λ v q. refl) r)
kept c w ts key.Depends s p r = adds_here c s (entry_placed c.entry p) (depends_adds ts s r)
kept c w ts key.Visible s p r = adds_here c s (menu_placed c.entry p) (visible_adds ts s r)
kept c w ts key.Select s p r = adds_here c s (config_placed c.entry p) (target_turns Adds SelectLine ts s (λ n q. refl) r)
kept c w ts key.Imply s p r = adds_here c s (config_placed c.entry p) (target_turns Adds ImplyLine ts s (λ n q. refl) r)
kept c w ts key.Range s p r = adds_here c s (config_placed c.entry p) (range_adds ts s r)
kept c w ts key.Help s p r = adds_here c s (either_placed c.entry p) (ap turn (finish_is HelpLine s ts r))
kept c w ts key.Modules s p r = made_here c s ModulesLine (finish_is ModulesLine s ts r) (placed_in_config (is_config c.entry) c.modules p)
kept c w ts key.«Option» s p r = option_suits c s ts (begins_with (codes "modules") ts) (begins_with (codes "allnoconfig_y") ts)
    (begins_with (codes "env") ts) (begins_with (codes "defconfig_list") ts) refl refl refl refl p r
kept c w ts key.LeftOut s p r = absurd cc

by_place : (c : LineContext) (w : List ℕ) (ts : List Lexeme) (k : Keyword) (o : Option Cause) (s : Named) → placement_cause c w ts k ≡ o →
    After (in_place k o) (λ j. ReadsRest w j ts) (Ok s) → SuitsHere c (turn s)
by_place c w ts k None s e r = kept c w ts k s e r
by_place c w ts k (Some why) s e r = absurd cc

pub read_suits : (c : LineContext) (ts : List Lexeme) (s : Named) → ReadsLine c ts (Ok s) → SuitsHere c (turn s)
read_suits c ts s r =
    after (word_of ts) (λ w. After (keyword_or_refusal (keyword_of w)) (ReadsPlaced c w (drop 1 ts))) s (SuitsHere c (turn s)) r
    (λ w e q. after (keyword_or_refusal (keyword_of w)) (ReadsPlaced c w (drop 1 ts)) s (SuitsHere c (turn s)) q (λ k f p. by_place c w (drop 1 ts) k (placement_cause c w (drop 1 ts) k) s refl p))

-- a `modules` line is read in the entry of a `config` line
pub enables : (c : LineContext) (s : Named) → SuitsHere c (turn s) → is_modules s ≡ true → is_config c.entry ≡ true
enables c ModulesLine h e = h
enables c _ h e = absurd cc

-- an attribute is read in an entry
in_config : (k : EntryKind) → is_config k ≡ true → is_entry k ≡ true
in_config entry.Config e = refl
in_config _ e = absurd cc

pub adds : (c : LineContext) (s : Named) → SuitsHere c (turn s) → is_attribute s ≡ true → is_entry c.entry ≡ true
adds c ModulesLine h e = in_config c.entry h
adds c (TypeLine k p) h e = h
adds c (PromptLine p) h e = h
adds c (DefaultLine v w) h e = h
adds c (DefLine k v w) h e = h
adds c (DependsLine d) h e = h
adds c (VisibleLine d) h e = h
adds c (SelectLine n w) h e = h
adds c (ImplyLine n w) h e = h
adds c (RangeLine a b w) h e = h
adds c HelpLine h e = h
adds c IgnoredLine h e = h
adds c _ h e = absurd cc
