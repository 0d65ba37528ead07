pub mod RunStatuses
pub mod ReasonsTold
pub mod ReversedReviews
pub mod ReversedBegins
pub mod ReversedMaking
pub mod ReversedFiles
pub mod ReversedRemovals
pub mod ReversedEnd
pub mod Reversed
pub mod ExampleCommands
pub mod ExampleLogs
pub mod Lasting
mod TextsRead
mod TextsKept
mod Totals
mod Released
pub mod Sizes
mod ExamplePeople
mod ProvidedTold
mod ExampleUpdates
mod Administrators
mod ExampleAdministrators
