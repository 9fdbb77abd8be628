-- That the judge says yes exactly to runs in their form that end at the target.
pub mod Agreeing
pub mod Telling
pub mod Passing
