pub mod NewEnds
pub mod Making
pub mod Threads
pub mod Begins
pub mod FewActs
pub mod Goes
