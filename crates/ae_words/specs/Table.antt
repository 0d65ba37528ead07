-- The table: the pattern of each function, listing and option, and what other words a function takes.
use Rattle.std.specs.Prelude.{ℕ, List, [], ◌∷◌, Bool, true, false, codes, Option, Some, None}
use Rattle.ae_words.specs.declared.table.Function.{Function}
use Rattle.ae_words.specs.declared.table.Function.TheVariants as function
use Rattle.ae_words.specs.declared.table.Listing.{Listing}
use Rattle.ae_words.specs.declared.table.Listing.TheVariants as listing
use Rattle.ae_words.specs.declared.table.Setting.{Setting}
use Rattle.ae_words.specs.declared.table.Setting.TheVariants as setting
use Rattle.ae_words.specs.declared.table.Row.{Row}
use Rattle.ae_words.specs.declared.table.Row.TheVariants as rows

-- the pattern of a function's word
abbrev pub function_pattern : Function → List ℕ
function_pattern function.NewProject = codes "New_PRoject"
function_pattern function.NewAdministrator = codes "New_Administrator"
function_pattern function.RemoveAdministrator = codes "Remove_Administrator"
function_pattern function.NewDeveloper = codes "New_Developer"
function_pattern function.RemoveDeveloper = codes "Remove_Developer"
function_pattern function.NewReviewer = codes "New_ReViewer"
function_pattern function.RemoveReviewer = codes "Remove_ReViewer"
function_pattern function.NewIntegrator = codes "New_Integrator"
function_pattern function.RemoveIntegrator = codes "Remove_Integrator"
function_pattern function.ProjectAttributes = codes "Project_Attributes"
function_pattern function.NewChange = codes "New_Change"
function_pattern function.ChangeAttributes = codes "Change_Attributes"
function_pattern function.NewChangeUndo = codes "New_Change_Undo"
function_pattern function.DevelopBegin = codes "Develop_Begin"
function_pattern function.DevelopBeginUndo = codes "Develop_Begin_Undo"
function_pattern function.Build = codes "Build"
function_pattern function.DevelopEnd = codes "Develop_End"
function_pattern function.DevelopEndUndo = codes "Develop_End_Undo"
function_pattern function.ReviewBegin = codes "Review_Begin"
function_pattern function.ReviewBeginUndo = codes "Review_Begin_Undo"
function_pattern function.ReviewPass = codes "Review_PASS"
function_pattern function.ReviewPassUndo = codes "Review_Pass_Undo"
function_pattern function.ReviewFail = codes "Review_FAIL"
function_pattern function.IntegrateBegin = codes "Integrate_Begin"
function_pattern function.IntegrateBeginUndo = codes "Integrate_Begin_Undo"
function_pattern function.IntegratePass = codes "Integrate_PASS"
function_pattern function.IntegrateFail = codes "Integrate_FAIL"
function_pattern function.CopyFile = codes "CoPy_file"
function_pattern function.CopyFileUndo = codes "CoPy_file_Undo"
function_pattern function.NewFile = codes "New_File"
function_pattern function.NewFileUndo = codes "New_File_Undo"
function_pattern function.NewTest = codes "New_Test"
function_pattern function.NewTestUndo = codes "New_Test_Undo"
function_pattern function.RemoveFile = codes "ReMove_file"
function_pattern function.RemoveFileUndo = codes "ReMove_file_Undo"
function_pattern function.Test = codes "Test"
function_pattern function.List = codes "List"
function_pattern function.Script = codes "SCRipt"
function_pattern function.Generate = codes "GENerate"
function_pattern function.Audit = codes "AUDit"
function_pattern function.Report = codes "REPort"
function_pattern function.DistributionSend = codes "Distribution_Send"
function_pattern function.DistributionReceive = codes "Distribution_Receive"

-- all of them, in the order of the table
abbrev pub all_functions : List Function
all_functions =
    function.NewProject ∷ function.NewAdministrator ∷ function.RemoveAdministrator ∷ function.NewDeveloper ∷
    function.RemoveDeveloper ∷ function.NewReviewer ∷ function.RemoveReviewer ∷ function.NewIntegrator ∷
    function.RemoveIntegrator ∷ function.ProjectAttributes ∷ function.NewChange ∷ function.ChangeAttributes ∷
    function.NewChangeUndo ∷ function.DevelopBegin ∷ function.DevelopBeginUndo ∷ function.Build ∷
    function.DevelopEnd ∷ function.DevelopEndUndo ∷ function.ReviewBegin ∷ function.ReviewBeginUndo ∷
    function.ReviewPass ∷ function.ReviewPassUndo ∷ function.ReviewFail ∷ function.IntegrateBegin ∷
    function.IntegrateBeginUndo ∷ function.IntegratePass ∷ function.IntegrateFail ∷ function.CopyFile ∷
    function.CopyFileUndo ∷ function.NewFile ∷ function.NewFileUndo ∷ function.NewTest ∷ function.NewTestUndo ∷
    function.RemoveFile ∷ function.RemoveFileUndo ∷ function.Test ∷ function.List ∷ function.Script ∷
    function.Generate ∷ function.Audit ∷ function.Report ∷ function.DistributionSend ∷ function.DistributionReceive ∷ []

-- the pattern of a listing's word
abbrev pub listing_pattern : Listing → List ℕ
listing_pattern listing.Administrators = codes "Administrators"
listing_pattern listing.Developers = codes "Developers"
listing_pattern listing.Reviewers = codes "Reviewers"
listing_pattern listing.Integrators = codes "Integrators"
listing_pattern listing.ProjectChanges = codes "Project_Changes"
listing_pattern listing.ProjectDetails = codes "Project_Details"
listing_pattern listing.ProjectFiles = codes "Project_Files"
listing_pattern listing.ProjectHistory = codes "Project_HIstory"
listing_pattern listing.ChangeDetails = codes "Change_Details"
listing_pattern listing.ChangeFiles = codes "Change_Files"
listing_pattern listing.ChangeHistory = codes "Change_History"
listing_pattern listing.ChangeEvidence = codes "Change_Evidence"
listing_pattern listing.Locks = codes "Locks"

-- all of them, in the order of the table
abbrev pub all_listings : List Listing
all_listings =
    listing.Administrators ∷ listing.Developers ∷ listing.Reviewers ∷ listing.Integrators ∷ listing.ProjectChanges ∷
    listing.ProjectDetails ∷ listing.ProjectFiles ∷ listing.ProjectHistory ∷ listing.ChangeDetails ∷
    listing.ChangeFiles ∷ listing.ChangeHistory ∷ listing.ChangeEvidence ∷ listing.Locks ∷ []

-- the pattern of an option's word
abbrev pub setting_pattern : Setting → List ℕ
setting_pattern setting.Project = codes "Project"
setting_pattern setting.File = codes "File"
setting_pattern setting.Change = codes "Change"
setting_pattern setting.Delta = codes "DELta"
setting_pattern setting.Overwriting = codes "OverWriting"
setting_pattern setting.Baseline = codes "BaseLine"
setting_pattern setting.Regression = codes "REGression"
setting_pattern setting.Reason = codes "REAson"

-- all of them, in the order of the table
abbrev pub all_settings : List Setting
all_settings =
    setting.Project ∷ setting.File ∷ setting.Change ∷ setting.Delta ∷ setting.Overwriting ∷ setting.Baseline ∷
    setting.Regression ∷ setting.Reason ∷ []

-- the row of the table in which a function stands
abbrev pub row : Function → Row
row function.NewProject = rows.NewProject
row function.NewAdministrator = rows.Users
row function.RemoveAdministrator = rows.Users
row function.NewDeveloper = rows.Users
row function.RemoveDeveloper = rows.Users
row function.NewReviewer = rows.Users
row function.RemoveReviewer = rows.Users
row function.NewIntegrator = rows.Users
row function.RemoveIntegrator = rows.Users
row function.ProjectAttributes = rows.Attributes
row function.NewChange = rows.Attributes
row function.ChangeAttributes = rows.ChangeAttributes
row function.NewChangeUndo = rows.Change
row function.DevelopBegin = rows.Change
row function.DevelopBeginUndo = rows.Change
row function.Build = rows.Change
row function.DevelopEnd = rows.Change
row function.DevelopEndUndo = rows.Change
row function.ReviewBegin = rows.Change
row function.ReviewBeginUndo = rows.Change
row function.ReviewPass = rows.Change
row function.ReviewPassUndo = rows.Change
row function.ReviewFail = rows.Change
row function.IntegrateBegin = rows.Change
row function.IntegrateBeginUndo = rows.Change
row function.IntegratePass = rows.Change
row function.IntegrateFail = rows.Change
row function.CopyFile = rows.Copy
row function.CopyFileUndo = rows.Paths
row function.NewFile = rows.Paths
row function.NewFileUndo = rows.Paths
row function.NewTest = rows.NewTest
row function.NewTestUndo = rows.Paths
row function.RemoveFile = rows.Paths
row function.RemoveFileUndo = rows.Paths
row function.Test = rows.Test
row function.List = rows.Listing
row function.Script = rows.Nothing
row function.Generate = rows.Numbers
row function.Audit = rows.Nothing
row function.Report = rows.Report
row function.DistributionSend = rows.Change
row function.DistributionReceive = rows.Alone

-- whether it is one command, to which the log machine has an answer, and which may stand in a script: a script, the generator and a
-- change set that is received are many commands, and an audit, a report and a change set that is sent are looks at what stands
abbrev pub is_one_command : Function → Bool
is_one_command function.Script = false
is_one_command function.Generate = false
is_one_command function.Audit = false
is_one_command function.Report = false
is_one_command function.DistributionSend = false
is_one_command function.DistributionReceive = false
is_one_command _ = true

-- whether the listing shows a change
abbrev pub of_change : Listing → Bool
of_change listing.Administrators = false
of_change listing.Developers = false
of_change listing.Reviewers = false
of_change listing.Integrators = false
of_change listing.ProjectChanges = false
of_change listing.ProjectDetails = false
of_change listing.ProjectFiles = false
of_change listing.ProjectHistory = false
of_change listing.ChangeDetails = true
of_change listing.ChangeFiles = true
of_change listing.ChangeHistory = true
of_change listing.ChangeEvidence = true
of_change listing.Locks = false

-- whether a listing takes a change; one that isn't known yet may
abbrev pub may_take_change : Option Listing → Bool
may_take_change None = true
may_take_change (Some l) = of_change l

-- all rows allow `-Project` but those of a new project, of no word, and of numbers
abbrev pub allows_project : Row → Bool
allows_project rows.NewProject = false
allows_project rows.Nothing = false
allows_project rows.Numbers = false
allows_project _ = true

-- the rows that read a file of attributes allow `-File`
abbrev pub allows_file : Row → Bool
allows_file rows.NewProject = true
allows_file rows.Attributes = true
allows_file rows.ChangeAttributes = true
allows_file _ = false

-- the rows of a change allow `-Change`, that of List by its listing
abbrev pub allows_change : Row → Option Listing → Bool
allows_change rows.ChangeAttributes l = true
allows_change rows.Change l = true
allows_change rows.Copy l = true
allows_change rows.Paths l = true
allows_change rows.NewTest l = true
allows_change rows.Test l = true
allows_change rows.Listing l = may_take_change l
allows_change _ l = false

-- `-DELta` and `-OverWriting` stand with a copy alone
abbrev pub allows_copying : Row → Bool
allows_copying rows.Copy = true
allows_copying _ = false

-- `-BaseLine` and `-REGression` stand with a test alone
abbrev pub allows_test : Row → Bool
allows_test rows.Test = true
allows_test _ = false

-- whether the function adds a row to the history of its change
abbrev pub adds_row : Function → Bool
adds_row function.NewChange = true
adds_row function.DevelopBegin = true
adds_row function.DevelopBeginUndo = true
adds_row function.DevelopEnd = true
adds_row function.DevelopEndUndo = true
adds_row function.ReviewBegin = true
adds_row function.ReviewBeginUndo = true
adds_row function.ReviewPass = true
adds_row function.ReviewPassUndo = true
adds_row function.ReviewFail = true
adds_row function.IntegrateBegin = true
adds_row function.IntegrateBeginUndo = true
adds_row function.IntegratePass = true
adds_row function.IntegrateFail = true
adds_row _ = false

-- whether the option may stand with the function, with List for this listing; `-REAson` tells why a row is added
abbrev pub allows : Function → Option Listing → Setting → Bool
allows f l setting.Project = allows_project (row f)
allows f l setting.File = allows_file (row f)
allows f l setting.Change = allows_change (row f) l
allows f l setting.Delta = allows_copying (row f)
allows f l setting.Overwriting = allows_copying (row f)
allows f l setting.Baseline = allows_test (row f)
allows f l setting.Regression = allows_test (row f)
allows f l setting.Reason = adds_row f

-- whether `-File` must be there
abbrev pub needs_attributes : Row → Bool
needs_attributes rows.Attributes = true
needs_attributes rows.ChangeAttributes = true
needs_attributes _ = false

-- whether a listing needs a change; one that isn't there does not
abbrev pub takes_change : Option Listing → Bool
takes_change None = false
takes_change (Some l) = of_change l

-- whether `-Change` must be there
abbrev pub needs_change : Row → Option Listing → Bool
needs_change rows.Listing l = takes_change l
needs_change r l = allows_change r l
