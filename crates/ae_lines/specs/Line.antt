-- What a line of a script says.
use Rattle.std.specs.Prelude.{ℕ, ◌≡◌, ◌==◌, ◌≤◌, nat_eq, nat_le, List, [], ◌∷◌, if◌then◌else◌, Bool, true, false, Option, Some, None, codes, length, drop}
use Rattle.std.specs.List.{list_all, starts_with}
use Rattle.std.specs.Option.{option_map, option_and_then}
use Rattle.std.specs.Str.{bytes_eq}
use Rattle.ae_base.specs.Limits.{last_moment, most_deltas}
use Rattle.ae_base.specs.Names.{is_user, is_path, IsUser, IsPath}
use Rattle.ae_base.specs.Numbers.{number_within, change_number, delta_number}
use Rattle.ae_outside.specs.declared.dir.Dir.{Dir}
use Rattle.ae_outside.specs.declared.dir.Dir.TheVariants.{Here, Develop, Integrate, Base}
use Rattle.ae_words.specs.Grammar.{IsCommand}
use Rattle.ae_words.specs.declared.command.Command.{Command}
use Rattle.ae_words.specs.Formed.{IsFormed, is_change_number}
use Rattle.ae_words.specs.Table.{is_one_command}
use Rattle.ae_lines.specs.declared.line.Line.{Line}
use Rattle.ae_lines.specs.declared.line.Line.TheVariants.{Nothing, As, At, Do, Put, Fill, Remove}
use Rattle.ae_lines.specs.Tokens.{tokens}

-- what stands after this beginning
abbrev pub after_beginning : List ℕ → List ℕ → Option (List ℕ)
after_beginning beginning word = if starts_with nat_eq word beginning then Some (drop (length beginning) word) else None

-- a directory of a delta, from 1 on
abbrev pub integrate_dir : ℕ → Option Dir
integrate_dir delta = if delta == 0 then None else Some (Integrate delta)

abbrev pub develop_named : List ℕ → Option Dir
develop_named word = option_map (λ (n : ℕ). Develop n) (option_and_then change_number (after_beginning (codes "develop.") word))

abbrev pub base_named : List ℕ → Option Dir
base_named word = option_map (λ (n : ℕ). Base n) (option_and_then change_number (after_beginning (codes "base.") word))

abbrev pub integrate_named : List ℕ → Option Dir
integrate_named word = option_and_then integrate_dir (option_and_then delta_number (after_beginning (codes "integrate.") word))

abbrev pub or_else : {A : Type 0} → Option A → Option A → Option A
or_else (Some x) other = Some x
or_else None other = other

-- `here`, `develop.N`, `integrate.D` or `base.N`
abbrev pub dir_named : List ℕ → Option Dir
dir_named word = if bytes_eq word (codes "here") then Some Here else or_else (develop_named word) (or_else (integrate_named word) (base_named word))

-- ---- numbers: 1 to 20 digits, leading zeros allowed

abbrev pub number_up_to : ℕ → List ℕ → Option ℕ
number_up_to most = number_within 20 0 most

-- 8 MiB
abbrev pub most_filled : ℕ
most_filled = 8388608

-- ---- lines by what stands after their first token

abbrev pub as_line : List (List ℕ) → Option Line
as_line (user ∷ []) = if is_user user then Some (As user) else None
as_line _ = None

-- up to the last second of the year 2099
abbrev pub at_line : List (List ℕ) → Option Line
at_line (moment ∷ []) = option_map (λ (n : ℕ). At n) (number_up_to last_moment moment)
at_line _ = None

-- a file's place: its directory and path
abbrev pub place_of : List ℕ → List ℕ → Option (Dir × List ℕ)
place_of dir path = if is_path path then option_map (λ (d : Dir). (d, path)) (dir_named dir) else None

abbrev pub put_line : List (List ℕ) → Option Line
put_line (dir ∷ path ∷ text ∷ []) = option_map (λ (p : Dir × List ℕ). Put p.0 p.1 text) (place_of dir path)
put_line _ = None

-- so many times this byte
abbrev pub fill_with : Option ℕ → Option ℕ → Dir × List ℕ → Option Line
fill_with (Some count) (Some byte) p = Some (Fill p.0 p.1 count byte)
fill_with (Some count) None p = None
fill_with None byte p = None

abbrev pub fill_line : List (List ℕ) → Option Line
fill_line (dir ∷ path ∷ count ∷ byte ∷ []) = option_and_then (fill_with (number_up_to most_filled count) (number_up_to 255 byte)) (place_of dir path)
fill_line _ = None

abbrev pub drop_line : List (List ℕ) → Option Line
drop_line (dir ∷ path ∷ []) = option_map (λ (p : Dir × List ℕ). Remove p.0 p.1) (place_of dir path)
drop_line _ = None

-- ---- what the tokens of a line say: a line, a command by its words, or nothing that is understood

pub data Said : Type 0 where
  says : Line → Said
  asks : List (List ℕ) → Said
  wrong : Said

abbrev pub said_or_wrong : Option Line → Said
said_or_wrong (Some line) = says line
said_or_wrong None = wrong

-- by the first token
abbrev pub said_by : List ℕ → List (List ℕ) → Said
said_by name rest =
    if bytes_eq name (codes "as") then said_or_wrong (as_line rest)
    else (if bytes_eq name (codes "at") then said_or_wrong (at_line rest)
    else (if bytes_eq name (codes "do") then asks rest
    else (if bytes_eq name (codes "put") then said_or_wrong (put_line rest)
    else (if bytes_eq name (codes "fill") then said_or_wrong (fill_line rest)
    else (if bytes_eq name (codes "drop") then said_or_wrong (drop_line rest) else wrong)))))

abbrev pub said_of : List (List ℕ) → Said
said_of [] = says Nothing
said_of (name ∷ rest) = said_by name rest

abbrev pub said_where : Option (List (List ℕ)) → Said
said_where (Some all) = said_of all
said_where None = wrong

abbrev pub is_comment : List ℕ → Bool
is_comment [] = false
is_comment (b ∷ bs) = b == 35

-- what a line says; a comment may hold any bytes
abbrev pub said : List ℕ → Said
said text = if is_comment text then says Nothing else said_where (tokens text)

-- each byte is below 128
abbrev pub is_ascii_word : List ℕ → Bool
is_ascii_word word = list_all (λ (b : ℕ). nat_le b 127) word

-- these words are this command, which is one that may stand in a script
pub record IsCommandOf (words : List (List ℕ)) (command : Command) : Type 0 where
  pub ascii : list_all is_ascii_word words ≡ true
  pub is : IsCommand words command
  pub one : is_one_command command.function ≡ true

abbrev pub Means : Said → Line → Type 0
Means (says other) line = line ≡ other
Means (asks words) line = (command : Command) × (line ≡ Do command) × IsCommandOf words command
Means wrong line = ⊥

-- the text of a line says this
abbrev pub IsLine : List ℕ → Line → Type 0
IsLine text line = Means (said text) line

-- ---- what a line keeps, whatever its text

-- a change has a number that changes have, and a delta one from 1 on
abbrev pub IsDir : Dir → Type 0
IsDir Here = Unit {0}
IsDir (Develop change) = is_change_number change ≡ true
IsDir (Integrate delta) = (1 ≤ delta) × (delta ≤ most_deltas)
IsDir (Base change) = is_change_number change ≡ true

abbrev pub IsPlace : Dir → List ℕ → Type 0
IsPlace dir path = IsDir dir × IsPath path

-- names are names, numbers are in their ranges, and a command is one that words can say
abbrev pub IsReady : Line → Type 0
IsReady Nothing = Unit {0}
IsReady (As user) = IsUser user
IsReady (At moment) = moment ≤ last_moment
IsReady (Do command) = IsFormed command × (is_one_command command.function ≡ true)
IsReady (Put dir path text) = IsPlace dir path
IsReady (Fill dir path count byte) = IsPlace dir path × (count ≤ most_filled) × (byte ≤ 255)
IsReady (Remove dir path) = IsPlace dir path
