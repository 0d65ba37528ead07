-- The message of each outcome, and the status line of a command in a script.
use Rattle.std.specs.Prelude.{ℕ, ◌+◌, Bool, true, false, List, [], ◌∷◌, ◌++◌, codes}
use Rattle.std.specs.Fmt.{decimal}
use Rattle.ae_base.specs.declared.outcome.Outcome.{Outcome}
use Rattle.ae_base.specs.declared.outcome.Outcome.TheVariants.{Done, RunFailed, Refused, BadWords, BadScript, DiskFault, SiteFault, SinkFault, SourceFault, Damaged, Memory}
use Rattle.ae_base.specs.Outcomes.{status_of}
use Rattle.ae_base.specs.Refusals.{message_of}

-- places are counted from 1; 0 stands for the user or the moment
abbrev pub bad_words_text : ℕ → List ℕ
bad_words_text place = codes "aegis: word " ++ (decimal place ++ (codes " is not understood" ++ 10 ∷ []))

-- lines are counted from 1
abbrev pub bad_line_text : ℕ → List ℕ
bad_line_text line = codes "aegis: line " ++ (decimal line ++ (codes " is not understood" ++ 10 ∷ []))

abbrev pub disk_fault_text : List ℕ
disk_fault_text = codes "aegis: disk fault" ++ 10 ∷ []

abbrev pub site_fault_text : List ℕ
site_fault_text = codes "aegis: directory fault" ++ 10 ∷ []

abbrev pub input_fault_text : List ℕ
input_fault_text = codes "aegis: input fault" ++ 10 ∷ []

-- a file of the store is named
abbrev pub damaged_text : List ℕ → List ℕ
damaged_text name = codes "aegis: \"" ++ (name ++ (codes "\" is damaged" ++ 10 ∷ []))

abbrev pub memory_text : List ℕ
memory_text = codes "aegis: out of memory" ++ 10 ∷ []

-- the message of an outcome; what is done has a reply of its own instead, and a sink's fault can't be told
abbrev pub message : Outcome → List ℕ
message Done = []
message RunFailed = []
message (Refused refusal) = message_of refusal
message (BadWords place) = bad_words_text place
message (BadScript line) = bad_line_text line
message DiskFault = disk_fault_text
message SiteFault = site_fault_text
message SinkFault = []
message SourceFault = input_fault_text
message (Damaged name) = damaged_text name
message Memory = memory_text

-- after each command of a script: `= ` and the exit status, which has one digit
abbrev pub status_line : Bool → Outcome → List ℕ
status_line true outcome = codes "= " ++ (48 + status_of outcome) ∷ 10 ∷ []
status_line false outcome = []

-- What is written of a command that ended so: its reply, which has its status line already, also where a run failed; else the
-- message, and the status line if that is asked for.
abbrev pub command_text : (status : Bool) → (reply : List ℕ) → Outcome → List ℕ
command_text status reply Done = reply
command_text status reply RunFailed = reply
command_text status reply (Refused refusal) = message_of refusal ++ status_line status (Refused refusal)
command_text status reply (BadWords place) = bad_words_text place ++ status_line status (BadWords place)
command_text status reply (BadScript line) = bad_line_text line ++ status_line status (BadScript line)
command_text status reply DiskFault = disk_fault_text ++ status_line status DiskFault
command_text status reply SiteFault = site_fault_text ++ status_line status SiteFault
command_text status reply SinkFault = status_line status SinkFault
command_text status reply SourceFault = input_fault_text ++ status_line status SourceFault
command_text status reply (Damaged name) = damaged_text name ++ status_line status (Damaged name)
command_text status reply Memory = memory_text ++ status_line status Memory
