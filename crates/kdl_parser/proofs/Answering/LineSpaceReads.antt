-- Line-spaces, read token by token to the end of a text.
use Rattle.std.proofs.Common.{◌≡◌, ◌↔◌, ◌<◌, length, Bool, true, false, [], None, Ok, Err, refl, sym, subst, ◌∙◌}
use Rattle.kdl_text.specs.Chars.{Text, Star, plus}
use Rattle.kdl_text.specs.Chars.Star.{none as no_star, more}
use Rattle.kdl_text.specs.Internal.Here.{Here}
use Rattle.kdl_text.specs.Trivia.{NodeSpace, LineSpace}
use Rattle.kdl_syntax.specs.Internal.Handed.{Cuts, one, spaces, kind_view, HandsOut, Lexed}
use Rattle.kdl_syntax.specs.Tokens.{Token, space, newline, t_space, t_newline, BeginsToken, NoToken}
use Rattle.kdl_syntax.specs.declared.lexer.LexFailure.{LexFailure}
use Rattle.kdl_syntax.specs.declared.lexer.LexFailure.TheVariants.{Faulty, Memory}
use Rattle.kdl_syntax.specs.declared.lexer.Token.{Token as CodeToken}
use Rattle.kdl_syntax.specs.declared.lexer.TokenKind.{TokenKind}
use Rattle.kdl_syntax.specs.declared.lexer.TokenKind.TheVariants.{Space}
use Rattle.kdl_syntax.proofs.Lexing.TokenUnique.{token_det, no_token}
use Rattle.kdl_parser.specs.Internal.LineSpaces.{is_line_space, AreLineSpaces}
use Rattle.kdl_parser.proofs.Stepping.TurnCost.{cut_shorter}

-- whether the token is made of line-spaces
abbrev of_lines : Token → Bool
of_lines space = true
of_lines newline = true
of_lines _ = false

lines_kind : (k : TokenKind) → is_line_space k ≡ of_lines (kind_view k)
lines_kind Space = refl
lines_kind k = refl

-- a text that begins with a token is line-spaces where the token is some and what follows it is
begun_lines : {s r : Text} {k : Token} → BeginsToken s k r → of_lines k ≡ true → Star LineSpace r [] → Star LineSpace s []
begun_lines (t_space n) e a = more (LineSpace.space n) a
begun_lines (t_newline n) e a = more (LineSpace.«break» n) a
begun_lines _ e a = absurd cc

token_of : {s r : Text} → LineSpace s r → (k : Token) × BeginsToken s k r × (of_lines k ≡ true)
token_of (LineSpace.space n) = (space, t_space n, refl)
token_of (LineSpace.«break» n) = (newline, t_newline n, refl)

after_lines : {s r : Text} {k : Token} → BeginsToken s k r → Star LineSpace s [] → (of_lines k ≡ true) × Star LineSpace r []
after_lines t no_star = absurd (no_token t)
after_lines {k = k} t (more n m) =
    let u = token_of n in
    let d = token_det u.1 t in
    (subst (λ (j : Token). of_lines j ≡ true) d.1 u.2, subst (λ (z : Text). Star LineSpace z []) d.0 m)

before_spaces : {s r : Text} → Star NodeSpace s r → Star LineSpace r [] → Star LineSpace s []
before_spaces no_star a = a
before_spaces (more n m) a = more (LineSpace.space n) (before_spaces m a)

after_spaces : {s r : Text} → Star NodeSpace s r → Star LineSpace s [] → Star LineSpace r []
after_spaces no_star a = a
after_spaces (more n m) a = after_spaces m (after_lines (t_space n) a).1

cut_lines : {s r : Text} {k : Token} → Cuts s k r → of_lines k ≡ true → Star LineSpace r [] → Star LineSpace s []
cut_lines (one t) e a = begun_lines t e a
cut_lines (spaces (plus n m)) e a = more (LineSpace.space n) (before_spaces m a)

after_cut : {s r : Text} {k : Token} → Cuts s k r → Star LineSpace s [] → (of_lines k ≡ true) × Star LineSpace r []
after_cut (one t) a = after_lines t a
after_cut (spaces (plus n m)) a = (refl, after_spaces m (after_lines (t_space n) a).1)

-- the text t is line-spaces where what is left before the lexer is
abbrev pub Lines : Here → Text → Type 0
Lines here t = Star LineSpace here.rest [] ↔ Star LineSpace t []

pub lines_start : (t : Text) (here : Here) → here.rest ≡ t → Lines here t
lines_start t here e = rw e (λ a. a, λ a. a)

pub lines_go_on : (t : Text) (old new : Here) (k : CodeToken) → Lines old t → HandsOut old k new → is_line_space k.kind ≡ true → Lines new t
lines_go_on t old new k g h e =
    let f : of_lines (kind_view k.kind) ≡ true = sym (lines_kind k.kind) ∙ e in
    (λ a. g.0 (cut_lines h.cuts f a), λ a. (after_cut h.cuts (g.1 a)).1)

pub lines_nearer : (old new : Here) (k : CodeToken) → HandsOut old k new → length new.rest < length old.rest
lines_nearer old new k h = cut_shorter h.cuts

-- a token that is none, a failure of the lexer, and the end
pub no_line_space : (t : Text) (old new : Here) (k : CodeToken) → Lines old t → HandsOut old k new → is_line_space k.kind ≡ false → AreLineSpaces t (Err Faulty)
no_line_space t old new k g h e a =
    let f : of_lines (kind_view k.kind) ≡ true = (after_cut h.cuts (g.1 a)).0 in
    let l = lines_kind k.kind in
    cc

no_lines : (s : Text) → NoToken s → Star LineSpace s [] → ⊥
no_lines s n no_star = n.begun refl
no_lines s n (more x m) = let u = token_of x in n.none _ u.0 u.1

pub lines_fail : (t : Text) (old new : Here) (e : LexFailure) → Lines old t → Lexed old (Err e) new → AreLineSpaces t (Err e)
lines_fail t old new Faulty g x = λ a. no_lines old.rest x (g.1 a)
lines_fail t old new Memory g x = tt

pub lines_end : (t : Text) (old new : Here) → Lines old t → Lexed old (Ok None) new → Star LineSpace t []
lines_end t old new g e = let f : old.rest ≡ [] = e in g.0 (subst (λ (z : Text). Star LineSpace z []) (sym f) no_star)
