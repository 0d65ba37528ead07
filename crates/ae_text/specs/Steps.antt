-- The reader's values as those of the definitions.
use Rattle.std.specs.Prelude.{◌≡◌, List, map, reverse, Result, Ok, Err}
use Rattle.ae_text.specs.View.{fields_seen, node, nodes_seen}
use Rattle.ae_text.specs.Token as tokens
use Rattle.ae_text.specs.Pushdown as spec
use Rattle.ae_text.specs.declared.pushdown.Token.{Token}
use Rattle.ae_text.specs.declared.pushdown.Token.TheVariants.{Word, Number, Str, Sign, End, Bad}
use Rattle.ae_text.specs.declared.pushdown.Frame.{Frame}
use Rattle.ae_text.specs.declared.pushdown.Frame.TheVariants.{InList, InFields}
use Rattle.ae_text.specs.declared.pushdown.Place.{Place}
use Rattle.ae_text.specs.declared.pushdown.Place.TheVariants.{AtName, AtEquals, AtValue, AtSemicolon, AtItem, AtComma, Done}
use Rattle.ae_text.specs.declared.pushdown.State.{State}
use Rattle.ae_text.specs.declared.pushdown.Stop.{Stop}
use Rattle.ae_text.specs.declared.pushdown.Stop.TheVariants.{Syntax, TooDeep, Memory}

-- the token
abbrev pub token_of : Token → tokens.Token
token_of (Word t) = tokens.word t
token_of (Number n) = tokens.number n
token_of (Str t) = tokens.string t
token_of (Sign b) = tokens.sign b
token_of End = tokens.end
token_of Bad = tokens.bad

-- what waits for a value
abbrev pub frame_of : Frame → spec.Frame
frame_of (InList vs) = spec.in_list (nodes_seen vs.items)
frame_of (InFields fs k) = spec.in_fields (fields_seen fs.fields.items) k

-- all that waits, the innermost first
abbrev pub frames_of : List Frame → List spec.Frame
frames_of fs = reverse (map frame_of fs)

-- what may stand next
abbrev pub place_of : Place → spec.Place
place_of (AtName fs) = spec.at_name (fields_seen fs.fields.items)
place_of (AtEquals fs k) = spec.at_equals (fields_seen fs.fields.items) k
place_of (AtValue fs k) = spec.at_value (fields_seen fs.fields.items) k
place_of (AtSemicolon fs k v) = spec.at_semicolon (fields_seen fs.fields.items) k (node v)
place_of (AtItem vs) = spec.at_item (nodes_seen vs.items)
place_of (AtComma vs) = spec.at_comma (nodes_seen vs.items)
place_of (Done fs) = spec.done (fields_seen fs.fields.items)

-- the reader's whole state
abbrev pub state_of : State → spec.State
state_of s = record { outer = frames_of s.outer.items; place = place_of s.place; starts = s.starts.items }

-- the fault is the one that the definition gives, unless memory ran out
abbrev pub Fails : {Y : Type 0} → Stop → Result Y spec.Fault → Type 0
Fails Syntax given = given ≡ Err spec.syntax
Fails TooDeep given = given ≡ Err spec.too_deep
Fails Memory given = Unit {0}

-- what a function answered, seen by `view`, is what the definition gives, unless memory ran out
abbrev pub Gives : {X Y : Type 0} → (X → Y) → Result X Stop → Result Y spec.Fault → Type 0
Gives view (Ok x) given = given ≡ Ok (view x)
Gives view (Err e) given = Fails e given
