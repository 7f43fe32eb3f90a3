pub mod FieldNames
pub mod NumberFields
pub mod FeedTakings
pub mod FeedLines
pub mod FeedItems
pub mod FeedAnswers
pub mod FeedMeanings
