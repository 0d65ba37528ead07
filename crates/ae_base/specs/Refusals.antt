-- The refusals: their numbers and texts.
use Rattle.std.specs.Prelude.{ℕ, List, [], ◌∷◌, ◌++◌, codes, Option, Some, None}
use Rattle.std.specs.Fmt.{decimal}
use Rattle.ae_base.specs.Words.{phase_word, which_word}
use Rattle.ae_base.specs.declared.refusal.Subject.{Subject}
use Rattle.ae_base.specs.declared.refusal.Subject.TheVariants as named
use Rattle.ae_base.specs.declared.refusal.Refusal.{Refusal}
use Rattle.ae_base.specs.declared.refusal.Refusal.TheVariants.{NoProject, ProjectExists, WrongProject, NoSuchChange, WrongPhase, NotAdministrator, NotDeveloper, NotReviewer, NotIntegrator, NotThisDeveloper, NotThisReviewer, NotThisIntegrator, DeveloperMayNotReview, DeveloperMayNotIntegrate, ReviewerMayNotIntegrate, UserThere, UserNotThere, LastAdministrator, FileInChange, FileNotInChange, FileNotInProject, FileInProject, FileLocked, OutOfDate, NoFiles, FileMissing, NoTest, BuildNeeded, TestNeeded, BaselineTestNeeded, RegressionNeeded, IntegrationInProgress, Differs, NoCommand, BadConfig, BadAttributes, Limit, NoSuchDelta, SpaceFull, NoAttributes, PathClash, NotShown, BadReport, ReportNumber, BadBundle, NotABranch, BranchBusy}

abbrev pub number_of : Refusal → ℕ
number_of NoProject = 1
number_of ProjectExists = 2
number_of WrongProject = 3
number_of NoSuchChange = 4
number_of (WrongPhase _) = 5
number_of NotAdministrator = 6
number_of NotDeveloper = 7
number_of NotReviewer = 8
number_of NotIntegrator = 9
number_of (NotThisDeveloper _) = 10
number_of (NotThisReviewer _) = 11
number_of (NotThisIntegrator _) = 12
number_of DeveloperMayNotReview = 13
number_of DeveloperMayNotIntegrate = 14
number_of ReviewerMayNotIntegrate = 15
number_of (UserThere _) = 16
number_of (UserNotThere _) = 17
number_of LastAdministrator = 18
number_of (FileInChange _) = 19
number_of (FileNotInChange _) = 20
number_of (FileNotInProject _) = 21
number_of (FileInProject _) = 22
number_of (FileLocked _ _) = 23
number_of (OutOfDate _ _ _) = 24
number_of NoFiles = 25
number_of (FileMissing _) = 26
number_of NoTest = 27
number_of BuildNeeded = 28
number_of (TestNeeded _) = 29
number_of (BaselineTestNeeded _) = 30
number_of (RegressionNeeded _) = 31
number_of (IntegrationInProgress _) = 32
number_of (Differs _) = 33
number_of NoCommand = 34
number_of (BadConfig _) = 35
number_of (BadAttributes _) = 36
number_of (Limit _ _) = 37
number_of NoSuchDelta = 38
number_of SpaceFull = 39
number_of (NoAttributes _) = 40
number_of (PathClash _) = 41
number_of (NotShown _) = 42
number_of (BadReport _) = 43
number_of (ReportNumber _) = 44
number_of BadBundle = 45
number_of NotABranch = 46
number_of (BranchBusy _) = 47

-- a user, or `-` where there is none
abbrev pub user_or_dash : Option (List ℕ) → List ℕ
user_or_dash None = codes "-"
user_or_dash (Some user) = user

-- a file with its path in quotes
abbrev pub file_text : List ℕ → List ℕ
file_text path = codes "file \"" ++ path ++ codes "\""

-- a change's edit of a file, and the project's
abbrev pub edits_text : ℕ → ℕ → List ℕ
edits_text origin edit = codes " is of edit " ++ (decimal origin ++ (codes ", the project has edit " ++ decimal edit))

abbrev pub text_of : Refusal → List ℕ
text_of NoProject = codes "there is no project"
text_of ProjectExists = codes "the project is there already"
text_of WrongProject = codes "that is not this project"
text_of NoSuchChange = codes "there is no such change"
text_of (WrongPhase phase) = codes "the change is " ++ phase_word phase
text_of NotAdministrator = codes "you are not an administrator"
text_of NotDeveloper = codes "you are not a developer"
text_of NotReviewer = codes "you are not a reviewer"
text_of NotIntegrator = codes "you are not an integrator"
text_of (NotThisDeveloper user) = codes "the developer is " ++ user
text_of (NotThisReviewer user) = codes "the reviewer is " ++ user_or_dash user
text_of (NotThisIntegrator user) = codes "the integrator is " ++ user
text_of DeveloperMayNotReview = codes "the developer may not review"
text_of DeveloperMayNotIntegrate = codes "the developer may not integrate"
text_of ReviewerMayNotIntegrate = codes "the reviewer may not integrate"
text_of (UserThere user) = codes "user " ++ user ++ codes " has that role"
text_of (UserNotThere user) = codes "user " ++ user ++ codes " has not that role"
text_of LastAdministrator = codes "the last administrator stays"
text_of (FileInChange path) = file_text path ++ codes " is in the change"
text_of (FileNotInChange path) = file_text path ++ codes " is not in the change so"
text_of (FileNotInProject path) = file_text path ++ codes " is not in the project"
text_of (FileInProject path) = file_text path ++ codes " is in the project"
text_of (FileLocked path change) = file_text path ++ (codes " is locked by change " ++ decimal change)
text_of (OutOfDate path origin edit) = file_text path ++ edits_text origin edit
text_of NoFiles = codes "the change has no files"
text_of (FileMissing path) = file_text path ++ codes " is missing"
text_of NoTest = codes "there is no test"
text_of BuildNeeded = codes "a build of these files is needed"
text_of (TestNeeded path) = codes "test \"" ++ path ++ codes "\" is needed"
text_of (BaselineTestNeeded path) = codes "baseline test \"" ++ path ++ codes "\" is needed"
text_of (RegressionNeeded path) = codes "regression test \"" ++ path ++ codes "\" is needed"
text_of (IntegrationInProgress change) = codes "change " ++ decimal change ++ codes " is being integrated"
text_of (Differs path) = file_text path ++ codes " differs from the candidate"
text_of NoCommand = codes "aegis.conf gives no such command"
text_of (BadConfig line) = codes "aegis.conf, line " ++ decimal line
text_of (BadAttributes line) = codes "attributes, line " ++ decimal line
text_of (Limit which number) = codes "the limit " ++ which_word which ++ codes " is " ++ decimal number
text_of NoSuchDelta = codes "there is no such delta"
text_of SpaceFull = codes "the version space is full"
text_of (NoAttributes path) = codes "there is no file \"" ++ path ++ codes "\""
text_of (PathClash path) = file_text path ++ codes " clashes with a folder"
text_of (NotShown delta) = codes "delta " ++ decimal delta ++ codes " is not shown"
text_of (BadReport line) = codes "report, line " ++ decimal line
text_of (ReportNumber line) = codes "report, line " ++ decimal line ++ codes ": number out of range"
text_of BadBundle = codes "the change set is not understood"
text_of NotABranch = codes "this is not a branch"
text_of (BranchBusy change) = codes "change " ++ decimal change ++ codes " of the branch is not completed"

-- what a refusal names
abbrev pub subject_text : Subject → List ℕ
subject_text named.Nothing = []
subject_text (named.User user) = user.now
subject_text (named.Path path) = path.now
subject_text (named.File path) = file_text path.now
subject_text (named.Lock path change) = file_text path.now ++ (codes " is locked by change " ++ decimal change.now)
subject_text (named.Edits path origin edit) = file_text path.now ++ edits_text origin edit
subject_text (named.Phase phase) = phase_word phase
subject_text (named.Change change) = decimal change.now
subject_text (named.Delta delta) = decimal delta.now
subject_text (named.Line line) = decimal line
subject_text (named.Limit which number) = which_word which ++ codes " is " ++ decimal number

-- `aegis: `, the number, `: `, the text and a line end
abbrev pub message_of : Refusal → List ℕ
message_of refusal = codes "aegis: " ++ decimal (number_of refusal) ++ codes ": " ++ text_of refusal ++ 10 ∷ []
