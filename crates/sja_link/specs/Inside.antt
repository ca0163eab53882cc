-- How journals and worlds are kept, and how links go along with a journal (this project's own rule).
pub mod Fields
pub mod Queues
