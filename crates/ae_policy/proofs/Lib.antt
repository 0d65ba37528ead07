pub mod GoodProject
pub mod HasUser
